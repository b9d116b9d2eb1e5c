-- Each event as one rule, whose answers are of one type, and that it is what happens. Assumes nothing.
use Rattle.std.specs.Prelude.{◌≡◌, refl, List, Bool, true, false, ℤ}
use Rattle.std.proofs.Common.{ap}
use Rattle.whole.specs.Number.{unless}
use Rattle.places.specs.Place.{Layout, get}
use Rattle.places.specs.Act.{shape_of, Act, Rule, finish, perform_by}
use Rattle.places.specs.Footprint.{Footprint, KeepsTo}
use Rattle.soundness.specs.Sound.{sound, places_ok}
use Rattle.soundness.specs.Perform.{refuse, refuse_question}
use Rattle.acts.specs.Requests.{deposit_rule, withdraw_rule, guarantee_rule, question_rule}
use Rattle.acts.specs.Trade.{trade_rule}
use Rattle.acts.specs.Run.{begin_rule, step_rule}
use Rattle.closing.specs.Close.{close_rule}
use Rattle.stretches.specs.History.{Answer, said, told, Ask, deposit, withdrawal, guarantee, question, Event, asks, trade, transfer, begin, close, hears, asked, happens}

abbrev pub map_act : {A B : Type 0} → (A → B) → Act A → Act B
map_act f o = record { answer = f o.answer; puts = o.puts }

abbrev pub map_rule : {A B : Type 0} → (A → B) → Rule A → Rule B
map_rule f r s g = map_act f (r s g)

pub map_of : {A B : Type 0} (f : A → B) (L : Layout) (W : List ℤ) (F : Footprint) (r : Rule A) → KeepsTo places_ok L W F r → KeepsTo places_ok L W F (map_rule f r)
map_of f L W F r o = record { inside = o.inside; sound_after = o.sound_after; blind = λ us h. ap (map_act f) (o.blind us h) }

hears-map : {A : Type 0} (f : A → Answer) (refusal : Act A) (L : Layout) (W : List ℤ) (r : Rule A)
    → hears f (perform_by places_ok refusal L W r) ≡ perform_by places_ok (map_act f refusal) L W (map_rule f r)
unfolding perform_by
hears-map f refusal L W r = go (sound L W)
  where
    go : (t : Bool) → hears f (finish L (shape_of W) W (unless t refusal (r (shape_of W) (get L (shape_of W) W)))) ≡ finish L (shape_of W) W (unless t (map_act f refusal) (map_rule f r (shape_of W) (get L (shape_of W) W)))
    go true = refl
    go false = refl

abbrev pub ask_rule : ℤ → Ask → Rule Answer
ask_rule a (deposit x) = map_rule said (deposit_rule a x)
ask_rule a (withdrawal x) = map_rule said (withdraw_rule a x)
ask_rule a (guarantee x y) = map_rule said (guarantee_rule a x y)
ask_rule a question = map_rule told (question_rule a)

abbrev pub rule : Event → Rule Answer
rule (asks a q) = ask_rule a q
rule (trade b c j q t) = map_rule said (trade_rule b c j q t)
rule transfer = map_rule said step_rule
rule begin = map_rule said begin_rule
rule (close prices rates8 rates104 lags) = map_rule said (close_rule prices rates8 rates104 lags)

abbrev pub unsound_ask : Ask → Act Answer
unsound_ask (deposit x) = map_act said (refuse 1)
unsound_ask (withdrawal x) = map_act said (refuse 1)
unsound_ask (guarantee x y) = map_act said (refuse 1)
unsound_ask question = map_act told (refuse_question 1)

abbrev pub unsound : Event → Act Answer
unsound (asks a q) = unsound_ask q
unsound (trade b c j q t) = map_act said (refuse 1)
unsound transfer = map_act said (refuse 1)
unsound begin = map_act said (refuse 1)
unsound (close prices rates8 rates104 lags) = map_act said (refuse 1)

abbrev pub acts : Layout → List ℤ → Event → Answer × List ℤ
acts L W e = perform_by places_ok (unsound e) L W (rule e)

asked-acts : (L : Layout) (W : List ℤ) (a : ℤ) (q : Ask) → asked L W a q ≡ acts L W (asks a q)
asked-acts L W a (deposit x) = hears-map said (refuse 1) L W (deposit_rule a x)
asked-acts L W a (withdrawal x) = hears-map said (refuse 1) L W (withdraw_rule a x)
asked-acts L W a (guarantee x y) = hears-map said (refuse 1) L W (guarantee_rule a x y)
asked-acts L W a question = hears-map told (refuse_question 1) L W (question_rule a)

pub happens-acts : (L : Layout) (W : List ℤ) (e : Event) → happens L W e ≡ acts L W e
happens-acts L W (asks a q) = asked-acts L W a q
happens-acts L W (trade b c j q t) = hears-map said (refuse 1) L W (trade_rule b c j q t)
happens-acts L W transfer = hears-map said (refuse 1) L W step_rule
happens-acts L W begin = hears-map said (refuse 1) L W begin_rule
happens-acts L W (close prices rates8 rates104 lags) = hears-map said (refuse 1) L W (close_rule prices rates8 rates104 lags)
