-- 01, "How tight a contract has to be": any two results that a public contract permits coincide. Each contract asks nothing and is an equation, result ≡
-- f(entry): its crate shows so of the function's own clauses (`..-says`). So for all input, refusals too, there is one number, one figure and one content
-- of each list at exit. One line for each entry point, with its own contract, twice, and what it leaves of what it was lent. Assumes nothing.
use Rattle.std.specs.Prelude.{◌≡◌, refl, List, ℤ}
use Rattle.std.proofs.Common.{ap}
use Rattle.std.proofs.Math.Path.{◌∙⁻¹◌}
use denote.Triple.Entry.{Args, Res}
use denote.Triple.Clauses.{Ended, AtExit}
use Rattle.contracts.specs.Says.{World, Lives, Contract, Says, Permits, means}
use Rattle.ledger.proofs.LedgerContracts.{deposits, withdrawals, guarantees, questions, trades, begins, steps}
use Rattle.ledger.proofs.LedgerContracts.{deposit-says, withdraw_says, guarantee-says, question-says, trade-says, begin-says, step-says}
use Rattle.closing.proofs.CloseContract.{closes, close-says}
use Rattle.shares.proofs.LossContract.{losses, share_loss_says}
use Rattle.rates.specs.MarginRate.{part_of}
use Rattle.rates.specs.contracts.governing as governing-fn
use Rattle.rates.proofs.RateContract.{ratings, governing_says}
use Rattle.day.proofs.SheetContract.{sheets, sheet_says}
use Rattle.teller.proofs.TellerContracts.{window_deposits, window_withdrawals, teller_deposit-says, teller_withdraw_says}

-- ---- the lemma: two results that an equation permits coincide, part by part

pub one : {A : Type 0} {x y : A} (only : A) → x ≡ only → y ≡ only → x ≡ y
one only h i = h ∙⁻¹ i

pub one-pair : {A B : Type 0} {a a' : A} {b b' : B} (only : A × B) → (a, b) ≡ only → (a', b') ≡ only → (a ≡ a') × (b ≡ b')
one-pair only h i = (ap (λ p. p.0) (one only h i), ap (λ p. p.1) (one only h i))

-- of the same parameters at entry, whatever the one contract permits and whatever the other permits coincide: the result, and what is left
abbrev pub Coincide : {T : Ended} → Contract T → Contract T → {X : Type 0} → ((κs : Lives T) → AtExit T κs → X) → Type 2
Coincide {T = T} c d left = (w : World) (κs : Lives T) (a : Args T.signature κs) (r r' : Res T.signature κs) (z z' : AtExit T κs)
    → Permits c w κs a r z → Permits d w κs a r' z' → (r ≡ r') × (left κs z ≡ left κs z')

-- a contract that is an equation, with itself
by_equation : {T : Ended} {c : Contract T} {X : Type 0} {left : (κs : Lives T) → AtExit T κs → X}
    {only : (κs : Lives T) → Args T.signature κs → Res T.signature κs × X} → Says c (λ κs a r z. (r, left κs z) ≡ only κs a) → Coincide c c left
by_equation says w κs a r r' z z' p q = one-pair _ (means says w p) (means says w q)

-- ---- the calls on the ledger leave the words

pub deposit : Coincide deposits deposits (λ _ z. z.0.now)
deposit = by_equation deposit-says

pub withdraw : Coincide withdrawals withdrawals (λ _ z. z.0.now)
withdraw = by_equation withdraw_says

pub guarantee : Coincide guarantees guarantees (λ _ z. z.0.now)
guarantee = by_equation guarantee-says

pub trade : Coincide trades trades (λ _ z. z.0.now)
trade = by_equation trade-says

pub begin : Coincide begins begins (λ _ z. z.0.now)
begin = by_equation begin-says

pub step : Coincide steps steps (λ _ z. z.0.now)
step = by_equation step-says

pub close : Coincide closes closes (λ _ z. z.0.now)
close = by_equation close-says

-- a question only reads: it leaves nothing
pub question : Coincide questions questions {X = Unit {0}} (λ _ _. tt)
question w κs a r r' z z' p q = ((one-pair _ (means question-says w p) (means question-says w q)).0, refl)

-- ---- loss sharing leaves both lists of shares

pub share_loss : Coincide losses losses {X = List ℤ × List ℤ} (λ _ z. (z.1.1.1.1.0.now, z.1.1.1.1.1.0.now))
share_loss w κs a r r' z z' p q =
    let e = one _ (means share_loss_says w p) (means share_loss_says w q) in (ap (λ l. l.0) e, ap (λ l. (l.1, l.2)) e)

-- ---- the margin rate is two numbers that are written, and a part of the caller's memory that is handed back: where it begins, and its
-- figures.

pub governing : (w : World) (κs : Lives governing-fn.ended) (a : Args governing-fn.signature κs) (r r' : Res governing-fn.signature κs) (z z' : AtExit governing-fn.ended κs)
    → Permits ratings w κs a r z → Permits ratings w κs a r' z'
    → (z.1.1.0.now ≡ z'.1.1.0.now) × (z.1.1.1.0.now ≡ z'.1.1.1.0.now) × (part_of r ≡ part_of r')
governing w κs a r r' z z' p q =
    let e = one _ (means governing_says w p) (means governing_says w q) in (ap (λ o. o.0) e, ap (λ o. o.1) e, ap (λ o. o.2) e)

-- ---- the sheet leaves the list lent for it

pub sheet : Coincide sheets sheets (λ _ z. z.1.0.now)
sheet = by_equation sheet_says

-- ---- the teller's two leave the record; their contracts are two equations each

by_two : {T : Ended} {c : Contract T} {X : Type 0} {left : (κs : Lives T) → AtExit T κs → X}
    {first : (κs : Lives T) → Args T.signature κs → Res T.signature κs} {second : (κs : Lives T) → Args T.signature κs → X}
    → Says c (λ κs a r z. (r ≡ first κs a) × (left κs z ≡ second κs a)) → Coincide c c left
by_two says w κs a r r' z z' p q = let h = means says w p in let i = means says w q in (one _ h.0 i.0, one _ h.1 i.1)

pub teller-deposit : Coincide window_deposits window_deposits (λ _ z. z.0.now)
teller-deposit = by_two teller_deposit-says

pub teller_withdraw : Coincide window_withdrawals window_withdrawals (λ _ z. z.0.now)
teller_withdraw = by_two teller_withdraw_says
