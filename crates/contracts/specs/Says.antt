-- What a function's contract says and permits, read off the function's own clauses: those that Rattle makes of the `requires` and `ensures` in its source.
-- A theorem stated with `Permits` or `CallOf` is about that very function, and no longer follows where the function promises less. Assumes nothing.
use Rattle.std.specs.Prelude.{◌≡◌}
use Rattle.std.proofs.Common.{subst}
use Rattle.std.proofs.Math.Path.{subst⁻¹}
use Rattle.std.proofs.Math.Logic.{∥∥₁_elim}
use seplogic.Ra.Ura.{Ura}
use base.Logic.{SProp, ent, emp}
use prog.Memory.{Memory}
use prog.Routine.{Routine}
use types.Logic.{Logic}
use contract.Lifetimes.{Lfts}
use contract.Monad.{Fun, fact, fact_i}
use denote.Triple.Entry.{Args, Res}
use denote.Triple.Clauses.{Ended, Clauses, AtExit}

-- a model of the logic that contracts are written in: a function is proved in every one
pub record World : Type 2 where
  pub M : Type 1
  pub 𝓤 : Ura M
  pub 𝓛 : Logic 𝓤
  pub mem : Memory → SProp 𝓤
  pub run : Routine → Fun 𝓤

-- the contract of a function with the signature T: its clauses, in every model
pub record Contract (T : Ended) : Type 2 where
  pub clauses : (M : Type 1) (𝓤 : Ura M) (𝓛 : Logic 𝓤) → (Memory → SProp 𝓤) → (Routine → Fun 𝓤) → Clauses 𝓤 T

abbrev pub clauses_in : {T : Ended} → Contract T → (w : World) → Clauses w.𝓤 T
clauses_in c w = c.clauses w.M w.𝓤 w.𝓛 w.mem w.run

-- the lifetimes of a call
abbrev pub Lives : Ended → Type 0
Lives T = Lfts T.signature.lifetimes

-- a fact of a call: of the parameters at entry, the result and the parameters at exit
abbrev pub Fact : Ended → Type 1
Fact T = (κs : Lives T) → Args T.signature κs → Res T.signature κs → AtExit T κs → Type 0

-- the clauses that ask nothing and ensure a fact
abbrev pub only_ensure : (T : Ended) → Fact T → (w : World) → Clauses w.𝓤 T
only_ensure T what w κs a = record { ghost = Unit {0}; requires = λ _. emp w.𝓤; ensures = λ _ r z. fact w.𝓤 (what κs a r z) }

-- the contract asks nothing, and what it ensures is this fact, of which there is one proof
pub record Says {T : Ended} (c : Contract T) (what : Fact T) : Type 2 where
  pub its_clauses : (w : World) → clauses_in c w ≡ only_ensure T what w
  pub one_proof : (κs : Lives T) (a : Args T.signature κs) (r : Res T.signature κs) (z : AtExit T κs) → IsProp (what κs a r z)

-- what clauses ensure is so, of the parameters at entry a, the result r and the parameters at exit z
abbrev Ensured : (T : Ended) (w : World) (κs : Lives T) → Args T.signature κs → Res T.signature κs → AtExit T κs → Clauses w.𝓤 T → Type 1
Ensured T w κs a r z c = (g : (c κs a).ghost) → ent w.𝓤 (emp w.𝓤) ((c κs a).ensures g r z)

-- the contract permits r and z
pub record Permits {T : Ended} (c : Contract T) (w : World) (κs : Lives T) (a : Args T.signature κs) (r : Res T.signature κs) (z : AtExit T κs) : Type 1 where
  pub ensured : Ensured T w κs a r z (clauses_in c w)

-- a call of the function, as its contract permits it
pub record CallOf {T : Ended} (c : Contract T) (w : World) : Type 1 where
  pub lives : Lives T
  pub entry : Args T.signature lives
  pub result : Res T.signature lives
  pub exit : AtExit T lives
  pub permits : Permits c w lives entry result exit

-- what is permitted is what is said, and what is said is permitted
module _ {T : Ended} {c : Contract T} {what : Fact T} (says : Says c what) (w : World)
    {κs : Lives T} {a : Args T.signature κs} {r : Res T.signature κs} {z : AtExit T κs} where
  pub means : Permits c w κs a r z → what κs a r z
  means p = ∥∥₁_elim ((subst (Ensured T w κs a r z) (says.its_clauses w) p.ensured tt).apply w.𝓤.one tt) (says.one_proof κs a r z) (λ t. t.0)

  pub permitted : what κs a r z → Permits c w κs a r z
  permitted x = record { ensured = subst⁻¹ (Ensured T w κs a r z) (says.its_clauses w) (λ _. fact_i w.𝓤 (what κs a r z) (emp w.𝓤) x) }
