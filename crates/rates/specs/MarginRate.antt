-- M-105, margin rates from price history (source 001, article 4): the rate of a window, which of two windows governs, and what is refused. What a reader
-- believes. A window is a list of figures: the logarithms of its price ratios, in whole hundred-thousandths, which the desk supplies.
use Rattle.std.specs.Prelude.{Bool, cond, ◌&&◌, List, [], ℕ, ◌+◌, ◌*◌, ◌-◌, leb, eqb, ℤ, pos, ◌-ℤ◌, ◌*ℤ◌, length}
use Rattle.std.specs.Int.Signed.{le_z}
use Rattle.std.specs.Borrow.{Bor}
use Rattle.whole.specs.Number.{within}
use Rattle.whole.specs.Counting.{all, sum, least, figure_at}
use Rattle.rules.specs.Sizes.{most_rate}
use Rattle.rules.specs.declared.Reply.{Reply}

-- ---- what is refused

-- 2 to 520 figures
abbrev pub most_count : ℕ
most_count = 520

abbrev pub length_ok : List ℤ → Bool
length_ok window = leb 2 (length window) && leb (length window) most_count

-- each within ±20,000
abbrev pub most_size : ℕ
most_size = 20000

abbrev pub figures_ok : List ℤ → Bool
figures_ok window = all (length window) (λ i. within most_size (figure_at window i))

-- the number of the refusal: 2 before 8, whichever window is at fault; 0 where there is none
unfoldable pub refusal : List ℤ → List ℤ → ℕ
refusal weeks8 weeks104 = cond (length_ok weeks8 && length_ok weeks104) (cond (figures_ok weeks8 && figures_ok weeks104) 0 8) 2

-- ---- the rate of a window of m figures

-- the figures added up, and their squares
unfoldable pub sum_of : List ℤ → ℤ
sum_of window = sum (length window) (figure_at window)

unfoldable pub squares_of : List ℤ → ℤ
squares_of window = sum (length window) (λ i. figure_at window i *ℤ figure_at window i)

-- m × squares - sum²: the square of the standard deviation, multiplied by m × (m - 1)
unfoldable pub spread_of : List ℤ → ℤ
spread_of window = (pos (length window) *ℤ squares_of window) -ℤ (sum_of window *ℤ sum_of window)

-- r hundredths of a percent are not below the exact figure. With the standard deviation s of the figures, which divides by the count less one (house), that
-- is s / 100,000 × 2.33 × 100 percent, or s × 233 / 1,000 hundredths: 1,000 × r is not below 233 × s. Here both sides are squared and multiplied by
-- m × (m - 1), so that no root and no fraction is left
unfoldable pub enough : List ℤ → ℕ → Bool
enough window r = le_z (pos (233 * 233) *ℤ spread_of window) (pos (r * r * 1000000 * (length window * (length window - 1))))

-- the least whole r, at least 1, that is enough. It is looked for up to 10,000, the most that a rate may be; for a window that is not refused there is one
-- (`RateTheorems`)
unfoldable pub window_rate : List ℤ → ℕ
window_rate window = least (most_rate + 1) (λ r. leb 1 r && enough window r)

-- ---- the call

-- the window that gave the larger rate, rates as they are rounded, and the 8-week one on a tie
unfoldable pub governs : Bor (List ℤ) → Bor (List ℤ) → Bor (List ℤ)
governs weeks8 weeks104 = cond (leb (window_rate weeks104.now) (window_rate weeks8.now)) weeks8 weeks104

-- what a list that is lent or handed back is to the caller: where in his memory it begins, and its figures, which say how long it is
abbrev pub Part : Type 0
Part = (ℕ × ℕ) × List ℤ

abbrev pub part_of : Bor (List ℤ) → Part
part_of list = (list.ref_ptr, list.now)

-- the empty part at the start of a list
abbrev pub empty_of : Bor (List ℤ) → Part
empty_of list = (list.ref_ptr, [])

-- the number, the rate, and the part handed back: all of the window that governs
unfoldable pub rated : Bor (List ℤ) → Bor (List ℤ) → ℕ × ℤ × Part
rated weeks8 weeks104 =
    cond (eqb (refusal weeks8.now weeks104.now) 0)
    (0, pos (window_rate (governs weeks8 weeks104).now), part_of (governs weeks8 weeks104))
    (refusal weeks8.now weeks104.now, pos 0, empty_of weeks8)

-- the same for C, where a list is a pointer and a count: the reply, how many figures the part has, and where the pointer points then. That is the start of the
-- part; where the 8-week list has no figure at all, the pointer stays as it was
unfoldable pub rated_in_c : Bor (List ℤ) → Bor (List ℤ) → ℕ × ℕ → Reply × ℕ × (ℕ × ℕ)
rated_in_c weeks8 weeks104 before =
    let answer = rated weeks8 weeks104 in
    (record { number = answer.0; figure = answer.1 }, length answer.2.1, cond (eqb (length weeks8.now) 0) before answer.2.0)
