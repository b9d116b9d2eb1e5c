-- Words for the contracts of private functions: the parts of `call_of` that have functions of their own. No reader of another contract needs
-- them.
use Rattle.std.specs.Prelude.{List, ℕ, ℤ}
use Rattle.whole.specs.Counting.{figure_at}
use Rattle.dayfile.specs.CallLines.{Call, guarantee, trade, close, column}

-- a guarantee call, a trade and a close by their figures
abbrev pub guarantee_by : List ℤ → Call
guarantee_by v = guarantee (figure_at v 0) (figure_at v 1) (figure_at v 2)

abbrev pub trade_by : List ℤ → Call
trade_by v = trade (figure_at v 0) (figure_at v 1) (figure_at v 2) (figure_at v 3) (figure_at v 4)

abbrev pub close_by : (p : ℕ) → List ℤ → Call
close_by p v = close (column 0 p v) (column 1 p v) (column 2 p v) (column 3 p v)
