-- What `all` over the numbers below n gives, by a test that answers f: `all n f`. Assumes nothing.
use Rattle.std.specs.Prelude.{◌≡◌, Bool, true, false, ℕ, ◌<◌, length, get_or}
use Rattle.std.specs.List.{AllWithin, HoldsAt, range_with_len}
use Rattle.std.proofs.Common.{arith, sym, subst, MatchBool}
use Rattle.std.proofs.lemmas.List.FromFn.{length-range_with_len, get_or-range_with_len}
use Rattle.whole.specs.Counting.{all}
use Rattle.whole.specs.CountingLaws.{all-is, all-fails}

at : (n i : ℕ) → i < n → get_or (range_with_len 0 n) i 0 ≡ i
at n i b = omega (arith, get_or-range_with_len 0 n i 0 b)

pub all_below : (n : ℕ) (f : ℕ → Bool) (r : Bool) → let xs = range_with_len 0 n in
    MatchBool r (AllWithin (λ x. f x ≡ true) xs 0 (length xs)) ((k : ℕ) × (k < length xs) × HoldsAt (λ x. f x ≡ false) xs k) → r ≡ all n f
all_below n f true h =
    sym (all-is n f (λ i b. subst (λ x. f x ≡ true) (at n i b) (h i 0 (omega arith) (omega (arith, length-range_with_len 0 n)))))
all_below n f false h =
    let b : h.0 < n = omega (arith, h.1, length-range_with_len 0 n) in
    sym (all-fails n f h.0 b (subst (λ x. f x ≡ false) (at n h.0 b) (h.2 0)))
