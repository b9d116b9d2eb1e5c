-- `moved_down` meets its contract: a call for each due, and none of them changes what the next one captures. Assumes nothing.
use Rattle.std.specs.Prelude.{◌≡◌, List, ℕ, zero, suc, ◌+◌, ◌<◌, ℤ, pos, get_or}
use Rattle.std.proofs.Common.{rules, arith, sym, subst, ◌∙◌, ext_get_or}
use Rattle.std.specs.Fn.{Called}
use Rattle.std.specs.Array.{IsFromFnResultFrom, IsFromFnResult}
use denote.Param.Members.{Mut}
use Rattle.whole.specs.Counting.{listed}
use Rattle.whole.specs.Listed.{length-listed, get_or-listed}
use Rattle.places.specs.Place.{get, dues}
use Rattle.places.specs.ByAccount.{by_account}
use Rattle.daily.specs.DailyFigures.{next_due}
use Rattle.daily.proofs.moved_down.Goals as goal

module _ {C : Type 0} (g : Mut C (ℕ × Unit {0}) ℤ) (f : C) (F : ℕ → ℤ) (made : (i : ℕ) (y : ℤ) (q : C) → Called g f (i, tt) y q → (q ≡ f) × (y ≡ F i)) where
  each : (ys : List ℤ) (i n k j : ℕ) → IsFromFnResultFrom g f ys i n → k < n → i + k ≡ j → get_or ys j (pos 0) ≡ F j
  each ys i zero k j h b e = absurd (omega arith)
  each ys i (suc n) zero j h b e = subst (λ z. get_or ys z (pos 0) ≡ F z) (omega arith) (h.2.1 (pos 0) ∙ (made i h.1 h.0 h.3).1)
  each ys i (suc n) (suc k) j h b e =
      each ys (i + 1) n k j (subst (λ q. IsFromFnResultFrom g q ys (i + 1) n) (made i h.1 h.0 h.3).0 h.4) (omega arith) (omega arith)

  all_made : (ys : List ℤ) (n : ℕ) → IsFromFnResult g f ys n → ys ≡ listed n F
  all_made ys n h =
      ext_get_or (pos 0) ys (listed n F) (h.long ∙ sym (length-listed n F))
      (λ i b. let l : i < n = omega (arith, h.long) in each ys 0 n i i h.each l (omega arith) ∙ sym (get_or-listed n F (pos 0) i l))

pub returns : goal.returns
returns c =
    all_made _ _ (next_due (get by_account c.args.s c.args.words.now) c.args.a) (λ i y q k. search rules) c.from_fn.result dues c.from_fn.ensures.items
