-- The lowest number below n of which a test holds, where there is one. Assumes nothing.
use Rattle.std.specs.Prelude.{◌≡◌, Bool, true, false, cond, ℕ, ◌<◌, ltb, Option, Some, None}
use Rattle.std.proofs.Common.{arith, lt-ltb, le-ltb}
use Rattle.whole.specs.Counting.{least}
use Rattle.whole.specs.CountingLaws.{least-is}

abbrev pub first : ℕ → (ℕ → Bool) → Option ℕ
first n holds = cond (ltb (least n holds) n) (Some (least n holds)) None

module _ (n : ℕ) (holds : ℕ → Bool) where
  pub first-found : (a : ℕ) → a < n → ((k : ℕ) → k < a → holds k ≡ false) → holds a ≡ true → Some a ≡ first n holds
  first-found a h none e = rw (least-is n holds a (omega arith) none (λ l. e), lt-ltb a n h)

  pub first-none : ((k : ℕ) → k < n → holds k ≡ false) → None ≡ first n holds
  first-none none = rw (least-is n holds n (omega arith) none (λ l. absurd (omega arith)), le-ltb n n (omega arith))
