-- Which footprints are apart, pair by pair and place by place: no place is put by one and seen by the other. Assumes nothing.
use Rattle.std.specs.Prelude.{◌≢◌, ℕ, ◌+◌}
use Rattle.std.proofs.Common.{arith}
use Rattle.places.specs.Place.{head, prod, acct, held}
use Rattle.places.specs.Footprint.{Footprint, Apart}
use Rattle.acts.proofs.OneAccount.{own, nothing}
use Rattle.acts.proofs.TradeLaws.{trading}
use Rattle.acts.proofs.RunLaws.{beginning, stepping}

pub nothing_any : (F : Footprint) → Apart nothing F
nothing_any F q = (λ h k. h, λ h k. k)

pub own-own : (a b : ℕ) → a ≢ b → Apart (own a) (own b)
own-own a b ne (head k) = (λ h l. h, λ h l. h)
own-own a b ne (prod j f) = (λ h l. h, λ h l. h)
own-own a b ne (acct c f) = (λ h l. omega arith, λ h l. omega arith)
own-own a b ne (held c j f) = (λ h l. h, λ h l. h)

pub own-step : (a t : ℕ) → a + 1 ≢ t → Apart (own a) (stepping t)
own-step a t ne (head k) = (λ h l. h, λ h l. l)
own-step a t ne (prod j f) = (λ h l. h, λ h l. h)
own-step a t ne (acct c f) = (λ h l. omega arith, λ h l. omega arith)
own-step a t ne (held c j f) = (λ h l. h, λ h l. h)

pub own-begin : (a : ℕ) → Apart (own a) beginning
own-begin a (head k) = (λ h l. h, λ h l. l)
own-begin a (prod j f) = (λ h l. h, λ h l. h)
own-begin a (acct c f) = (λ h l. omega arith, λ h l. h)
own-begin a (held c j f) = (λ h l. h, λ h l. h)

pub trade-own : (a : ℕ) → Apart trading (own a)
trade-own a (head k) = (λ h l. h, λ h l. h)
trade-own a (prod j f) = (λ h l. h, λ h l. h)
trade-own a (acct c f) = (λ h l. h, λ h l. omega arith)
trade-own a (held c j f) = (λ h l. l, λ h l. h)

pub trade-step : (t : ℕ) → Apart trading (stepping t)
trade-step t (head k) = (λ h l. h, λ h l. l)
trade-step t (prod j f) = (λ h l. h, λ h l. h)
trade-step t (acct c f) = (λ h l. h, λ h l. omega arith)
trade-step t (held c j f) = (λ h l. l, λ h l. h)

pub trade-begin : Apart trading beginning
trade-begin (head k) = (λ h l. h, λ h l. l)
trade-begin (prod j f) = (λ h l. h, λ h l. h)
trade-begin (acct c f) = (λ h l. h, λ h l. h)
trade-begin (held c j f) = (λ h l. l, λ h l. h)
