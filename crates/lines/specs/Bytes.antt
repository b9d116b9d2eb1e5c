-- A text of this file's own, as the list of its bytes (it holds plain ASCII only). It computes to the list, so that a definition shows
-- the paper's own words: `bytes "PRODUCTS "`.
use Rattle.std.specs.Prelude.{List, [], ◌∷◌, ℕ, zero, suc, ◌+◌}
use Prim.Native.String.{String, len, char_at}
use Prim.Native.Char.{code}

abbrev bytes_from : ℕ → ℕ → String → List ℕ
bytes_from zero at s = []
bytes_from (suc k) at s = code (char_at s at) ∷ bytes_from k (at + 1) s

abbrev pub bytes : String → List ℕ
bytes s = bytes_from (len s) 0 s
