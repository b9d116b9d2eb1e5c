-- What stands on a page: the bytes from its start on, as many as are written.
use Rattle.std.specs.Prelude.{◌≡◌, ℕ, List, ◌++◌, length, take}
use Rattle.faults.specs.declared.page.Page.{Page}

abbrev pub written : Page → List ℕ
written page = take page.size page.out.now

-- how many bytes have room on it
abbrev pub room : Page → ℕ
room page = length page.out.now

-- bytes stand behind what stood there
abbrev pub Appends : Page → List ℕ → Page → Type 0
Appends before bytes after = written after ≡ written before ++ bytes
