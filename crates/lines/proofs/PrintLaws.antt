-- Printed digits, numbers and lines: how long they are, and how one more digit or one more number goes on. Assumes nothing.
use mathlib.Core.Path.{◌≡◌, refl, sym, ◌∙◌, ap}
use mathlib.Core.Bool.{Bool, true, false, true≢false, cond}
use mathlib.Core.List.{List, [], ◌∷◌, ◌++◌}
use Prim.Native.Nat.{ℕ, zero, suc, ◌+◌, ◌*◌, ◌-◌, ◌/◌, ◌%◌, ◌^◌, ◌≤◌, ◌<◌, zero-le}
use native.Mathlib.Numerals.{add-one}
use native.Mathlib.Omega.{arith}
use borrow.Author.Tests.{lt-ltb, le-ltb}
use lib.Dec.{ltb}
use lib.IntN.{ℤ, pos, negsuc, nat_abs}
use lib.Signed.{lt_z}
use lib.ListN.{length, drop, get_or, length-drop, length-append}
use lib.Seq.{drop-cons}
use Rattle.lines.specs.Lines.{close_of}
use Rattle.lines.specs.Print.{digits, natural, decimal, field, numbers_line}

digits_long : (k n : ℕ) (t : Bool) → length (digits k (n / 10)) ≤ k → length (cond t ((48 + n) ∷ []) (digits k (n / 10) ++ ((48 + n % 10) ∷ []))) ≤ suc k
digits_long k n true h = omega arith
digits_long k n false h = omega (arith, length-append (digits k (n / 10)) ((48 + n % 10) ∷ []))

pub digits-length : (k n : ℕ) → length (digits k n) ≤ k
unfolding digits
digits-length zero n = zero-le
digits-length (suc k) n = digits_long k n (ltb n 10) (digits-length k (n / 10))

-- one more digit than a number can have changes nothing
pub digits_more : (k n : ℕ) → n < 10 ^ suc k → digits (suc (suc k)) n ≡ digits (suc k) n
unfolding digits
digits_more zero n h = rw (lt-ltb n 10 h)
digits_more (suc k) n h = ap (λ (l : List ℕ). cond (ltb n 10) ((48 + n) ∷ []) (l ++ ((48 + n % 10) ∷ []))) (digits_more k (n / 10) (omega (arith, h)))

pub small-digits : (k n : ℕ) → n < 10 → ((48 + n) ∷ []) ≡ digits (suc k) n
unfolding digits
small-digits k n h = rw (lt-ltb n 10 h)

pub large-digits : (k n : ℕ) → 10 ≤ n → n < 10 ^ suc (suc k) → digits (suc (suc k)) (n / 10) ++ ((48 + n % 10) ∷ []) ≡ digits (suc (suc k)) n
unfolding digits
large-digits k n h m = rw (le-ltb n 10 h) (ap (λ (l : List ℕ). l ++ ((48 + n % 10) ∷ [])) (digits_more k (n / 10) (omega (arith, m))))

pub tenth : (n : ℕ) → n < 2 ^ 64 → length (natural (n / 10)) < 20
tenth n h = omega (arith, ap length (digits_more 18 (n / 10) (omega arith)), digits-length 19 (n / 10))

pub decimal-below : (x : ℤ) → lt_z x (pos 0) ≡ true → (45 ∷ natural (nat_abs x)) ≡ decimal x
unfolding decimal
decimal-below (pos n) h = absurd (true≢false (sym h ∙ le-ltb n 0 zero-le))
decimal-below (negsuc n) h = refl

pub decimal-above : (x : ℤ) → lt_z x (pos 0) ≡ false → natural (nat_abs x) ≡ decimal x
unfolding decimal
decimal-above (pos n) h = refl
decimal-above (negsuc n) h = absurd (true≢false h)

pub decimal-length : (x : ℤ) → length (decimal x) ≤ 21
unfolding decimal
decimal-length (pos n) = omega (arith, digits-length 20 n)
decimal-length (negsuc n) = omega (arith, digits-length 20 (suc n))

pub field-length : (x : ℤ) (close : ℕ) → length (field x close) ≤ 22
field-length x close = omega (arith, length-append (decimal x) (close ∷ []), decimal-length x)

pub line-length : (zs : List ℤ) → length (numbers_line zs) ≤ length zs * 22
unfolding numbers_line
line-length [] = omega arith
line-length (z ∷ zs) = omega (arith, length-append (field z (close_of (length zs))) (numbers_line zs), field-length z (close_of (length zs)), line-length zs)

-- one number of a line, and the rest of it
pub line-more : (zs : List ℤ) (i : ℕ) → i < length zs → numbers_line (drop i zs) ≡ field (get_or zs i (pos 0)) (close_of (length zs - (i + 1))) ++ numbers_line (drop (i + 1) zs)
unfolding numbers_line
line-more zs i h = rw (drop-cons zs i (pos 0) h, add-one i, ← length-drop (suc i) zs) refl

pub line-none : numbers_line [] ≡ []
unfolding numbers_line
line-none = refl
