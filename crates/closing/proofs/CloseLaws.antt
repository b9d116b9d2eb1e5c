-- What rests on the rule's putting nothing where its search finds an account: that answer itself, a worked example of it, and that a close leaves a sound
-- ledger, taken or refused, over any layout: `close-keeps` of a ledger of a known shape, `close-sound` of any words. Assumes nothing.
use Rattle.std.specs.Prelude.{◌≡◌, refl, Bool, true, false, cond, List, [], ℕ, ◌<◌, ltb, ℤ, pos}
use Rattle.std.proofs.Common.{◌∙◌, lt-ltb}
use Rattle.whole.specs.Number.{floor_div, max_z}
use Rattle.whole.specs.Counting.{least}
use Rattle.rules.specs.Account.{account_ok}
use Rattle.rules.specs.Product.{rate_of, difference_of}
use Rattle.places.specs.declared.Shape.{Shape}
use Rattle.places.specs.Place.{View, Layout, Put, get, puts}
use Rattle.places.specs.Act.{finish, shape_of, sound_by, perform_by}
use Rattle.places.specs.ActLaws.{unless-puts, performed, ledger-of, sound-of}
use Rattle.places.specs.ByAccount.{by_account}
use Rattle.soundness.specs.Sound.{places_ok, sound}
use Rattle.soundness.specs.Perform.{replies, refuse, refuse_at, does, perform}
use Rattle.soundness.specs.SoundLaws.{Ledger}
use Rattle.daily.specs.DailyFigures.{over_gross, new_due, new_margin}
use Rattle.closing.specs.Close.{account_puts, close_puts, closing, close_rule}
use Rattle.closing.specs.Acts.{at_a, lengths_test, phase_test, figures_test}
use Rattle.closing.specs.CloseKeeps.{taken-keeps}
use Rattle.closing.specs.CloseExamples.{before}
use Rattle.closing.specs.CloseExamples as Example

module _ (L : Layout) (prices rates8 rates104 lags : List ℤ) (s : Shape) (W : List ℤ) (a : ℕ) (e : a ≡ least s.n (over_gross prices lags s (get L s W))) where
  -- an account's gross would pass its range
  pub found : a < s.n → finish L s W (closing prices rates8 rates104 lags s (get L s W)) ≡ (replies 12 (pos a), W)
  found h = at_a L prices rates8 rates104 lags s W a e ∙ rw (lt-ltb a s.n h)

-- the provider's gross would be 1,000,000,000,002,513
refused_12 : perform by_account (before (pos 3) (pos 999999999999000)) (close_rule Example.prices Example.rates8 Example.rates104 Example.lags) ≡ (replies 12 (pos 1), before (pos 3) (pos 999999999999000))
unfolding sound_by perform_by account_ok by_account close_puts account_puts new_due new_margin rate_of difference_of floor_div max_z
refused_12 = refl

closed-puts : (P : List Put → Type 0) (t : Bool) (z : ℤ) (us : List Put) → P [] → (t ≡ false → P us) → P (cond t (refuse_at 12 z) (does (pos 0) us)).puts
closed-puts P true z us n h = n
closed-puts P false z us n h = h refl

module _ (L : Layout) (s : Shape) (W : List ℤ) (prices rates8 rates104 lags : List ℤ) (l : Ledger L s W) where
  abbrev g : View
  g = get L s W

  -- a ledger is a sound ledger of its shape after the puts of the rule, whatever it answered
  pub close-keeps : Ledger L s (puts L s W (close_rule prices rates8 rates104 lags s g).puts)
  close-keeps =
      let P : List Put → Type 0 = λ vs. Ledger L s (puts L s W vs) in
      unless-puts P (lengths_test prices rates8 rates104 lags s g) (refuse 2) _ l (λ t.
      unless-puts P (phase_test prices rates8 rates104 lags s g) (refuse 7) _ l (λ _.
      unless-puts P (figures_test prices rates8 rates104 lags s g) (refuse 8) _ l (λ fig.
      closed-puts P (ltb (least s.n (over_gross prices lags s g)) s.n) (pos (least s.n (over_gross prices lags s g))) (close_puts prices rates8 rates104 lags s g) l (taken-keeps L s W prices rates8 rates104 lags l t fig))))

-- a sound list of words is sound after a close, taken or refused
pub close-sound : (L : Layout) (W : List ℤ) (prices rates8 rates104 lags : List ℤ) → sound L W ≡ true → sound L (perform L W (close_rule prices rates8 rates104 lags)).1 ≡ true
close-sound L W prices rates8 rates104 lags e =
    let s = shape_of W in
    rw (performed places_ok L W (refuse 1) (close_rule prices rates8 rates104 lags) e)
    (sound-of places_ok L s (puts L s W (close_rule prices rates8 rates104 lags s (get L s W)).puts) (close-keeps L s W prices rates8 rates104 lags (ledger-of places_ok L W e)))
