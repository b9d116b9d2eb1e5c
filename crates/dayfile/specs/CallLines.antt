-- The calls (01): `D a x`, `W a x`, `G a guarantee cap`, `B`, `S`, `T buyer seller product lots price`, `C` with price, 8-week rate,
-- 104-week rate and lag per product. A call is a letter and its figures.
use Rattle.std.specs.Prelude.{cond, List, [], ◌∷◌, ℕ, zero, suc, ◌+◌, ◌*◌, ltb, eqb, ℤ, get_or, drop}
use Prim.Native.Char.{code}
use Rattle.whole.specs.Counting.{figure_at}
use Rattle.places.specs.Act.{most_products}
use Rattle.lines.specs.Bytes.{bytes}
use Rattle.lines.specs.Lines.{lost, past, FiguresRead, figures_at, Line, Stand, lines}

-- `none` is what a byte that begins no call stands for; no good text has one
pub data Call : Type 0 where
  deposit : (account amount : ℤ) → Call
  withdrawal : (account amount : ℤ) → Call
  guarantee : (account new cap : ℤ) → Call
  begin : Call
  step : Call
  trade : (buyer seller product lots price : ℤ) → Call
  close : (prices weeks8 weeks104 lags : List ℤ) → Call
  none : Call

-- the most figures that a call has: a close of the most products
abbrev pub most_figures : ℕ
most_figures = most_products * 4

-- how many figures follow a call's letter; one more than the most behind a byte that begins no call
unfoldable pub figures_of : (p letter : ℕ) → ℕ
figures_of p letter =
    cond (eqb letter (code "D")) 2
    (cond (eqb letter (code "W")) 2
    (cond (eqb letter (code "G")) 3
    (cond (eqb letter (code "B")) 0
    (cond (eqb letter (code "S")) 0
    (cond (eqb letter (code "T")) 5
    (cond (eqb letter (code "C")) (p * 4) (most_figures + 1)))))))

-- between the letter and its figures: a space, or the line's end where there are none
abbrev pub gap : ℕ → List ℕ
gap zero = bytes "\n"
gap (suc k) = bytes " "

-- a letter, and its figures
unfoldable pub call_at : (text : List ℕ) (p at : ℕ) → FiguresRead
call_at text p at =
    let k = figures_of p (get_or text at 0) in
    cond (ltb most_figures k) (record { values = []; next = lost }) (figures_at text (past text (at + 1) (gap k)) k)

-- a close has price, 8-week rate, 104-week rate and lag of the first product, then of the next: column k holds every fourth figure from the
-- k-th on
abbrev pub column : (k p : ℕ) → List ℤ → List ℤ
column k zero v = []
column k (suc p) v = figure_at v k ∷ column k p (drop 4 v)

-- the call of a letter and its figures
unfoldable pub call_of : (p letter : ℕ) → List ℤ → Call
call_of p letter v =
    cond (eqb letter (code "D")) (deposit (figure_at v 0) (figure_at v 1))
    (cond (eqb letter (code "W")) (withdrawal (figure_at v 0) (figure_at v 1))
    (cond (eqb letter (code "G")) (guarantee (figure_at v 0) (figure_at v 1) (figure_at v 2))
    (cond (eqb letter (code "B")) begin
    (cond (eqb letter (code "S")) step
    (cond (eqb letter (code "T")) (trade (figure_at v 0) (figure_at v 1) (figure_at v 2) (figure_at v 3) (figure_at v 4))
    (cond (eqb letter (code "C")) (close (column 0 p v) (column 1 p v) (column 2 p v) (column 3 p v)) none))))))

-- the first pass over the calls keeps nothing but the place
abbrev pub call_line : (text : List ℕ) (p i at : ℕ) → Prim.Unit {0} → Line (Prim.Unit {0})
call_line text p i at u = record { next = (call_at text p at).next; held = tt }

unfoldable pub calls_from : (text : List ℕ) (at line p count : ℕ) → Stand (Prim.Unit {0})
calls_from text at line p count = lines (call_line text p) count 0 (record { at = at; line = line; held = tt })

-- the calls of k lines from a place
unfoldable pub calls_at : (text : List ℕ) (p at k : ℕ) → List Call
calls_at text p at zero = []
calls_at text p at (suc k) = call_of p (get_or text at 0) (call_at text p at).values ∷ calls_at text p (call_at text p at).next k
