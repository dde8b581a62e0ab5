-- Edges checked one after the other: what is known while the edges so far have passed.
-- Assumes nothing.
use mathlib.Core.Path.{◌≡◌, refl, sym, ◌∙◌, ap}
use mathlib.Core.List.{List, [], ◌∷◌, ◌++◌, append-nil}
use Prim.Native.Nat.{ℕ, suc, ◌+◌, ◌≤◌, ◌<◌}
use native.Mathlib.Omega.{arith}
use native.Mathlib.Numerals.{add-one}
use lib.ListN.{length, length-append}
use lib.Seq.{append_snoc}
use Rattle.base.proofs.Answers.{unless-refused, unless-next}
use Rattle.base.specs.Answer.{Answer, refused, answer, and_then}
use Rattle.base.specs.Refusals.{FORM}
use Rattle.base.proofs.Answers.{then-refused}
use Rattle.frame.specs.declared.kinds.Edge.{Edge}
use Rattle.network_frames.specs.Frames.{edge_refusal}
use Rattle.network_text.specs.Text.{Edges, finished, interrupted, next, checked}

-- the edges before the i-th have passed, and those that are left decide an answer that is made of all
pub record Passing {M : Type 0} (a : Answer M) (make : List Edge → M) (n : ℕ) (passed : List Edge) (i : ℕ)
    (rest : Edges) : Type 0 where
  pub count : length passed ≡ i
  pub due : a ≡ and_then (checked n i rest) (λ later. answer (make (passed ++ later)))

-- the next edge passes, and those behind it decide
pub record Goes (n i : ℕ) (rest : Edges) (e : Edge) (later : Edges) : Type 0 where
  pub on : checked n i rest ≡ and_then (checked n (suc i) later) (λ es. answer (e ∷ es))

pub passing-none : {M : Type 0} {a : Answer M} {make : List Edge → M} {n : ℕ} {rest : Edges}
    → a ≡ and_then (checked n 0 rest) (λ es. answer (make es)) → Passing a make n [] 0 rest
passing-none x = record { count = refl; due = x }

then-more : {M : Type 0} (make : List Edge → M) (e : Edge) (passed : List Edge) (b : Answer (List Edge))
    → and_then (and_then b (λ es. answer (e ∷ es))) (λ later. answer (make (passed ++ later)))
    ≡ and_then b (λ later. answer (make ((passed ++ (e ∷ [])) ++ later)))
unfolding and_then
then-more make e passed (refused k) = refl
then-more make e passed (answer later) = ap (λ es. answer (make es)) (sym (append_snoc passed e later))

module _ {M : Type 0} {a : Answer M} {make : List Edge → M} {n : ℕ} {passed : List Edge} {i : ℕ} {rest : Edges}
    (p : Passing a make n passed i rest) where
  pub passing-end : rest ≡ finished → a ≡ answer (make passed)
  unfolding checked and_then
  passing-end x = p.due ∙ rw (x, append-nil)

  pub passing-refused : {k : ℕ} → checked n i rest ≡ refused k → a ≡ refused k
  passing-refused {k} x = p.due ∙ then-refused (checked n i rest) _ k x

  pub passing-stop : rest ≡ interrupted → a ≡ refused FORM
  unfolding checked
  passing-stop x = passing-refused (rw x)

  pub passing-next : {e : Edge} {later : Edges} → Goes n i rest e later
      → Passing a make n (passed ++ (e ∷ [])) (i + 1) later
  passing-next {e} {later} x =
      record {
        count = length-append passed (e ∷ []) ∙ omega (arith, p.count);
        due = p.due ∙ rw (x.on, add-one) (then-more make e passed (checked n (suc i) later));
      }

-- an edge that is there, refused or not
module _ (n i : ℕ) {rest : Edges} {e : Edge} {later : Edges} (x : rest ≡ next e later) where
  pub edge-stops : 0 < edge_refusal n i e → checked n i rest ≡ refused (edge_refusal n i e)
  unfolding checked
  edge-stops h = rw (x, unless-refused (edge_refusal n i e) _ h)

  pub edge_goes : edge_refusal n i e ≤ 0 → Goes n i rest e later
  unfolding checked
  edge_goes h = record { on = rw (x, unless-next (edge_refusal n i e) _ h) }
