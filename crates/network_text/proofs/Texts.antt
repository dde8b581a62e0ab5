-- The text of a meaning in columns: when there is one, which it is, and how long.
-- Assumes nothing.
use mathlib.Core.Path.{◌≡◌, refl, sym, ◌∙◌, ap}
use mathlib.Core.List.{List, [], ◌∷◌, map}
use Prim.Native.Nat.{ℕ, zero, suc, ◌+◌, ◌*◌, ◌≤◌, ◌<◌}
use native.Mathlib.Omega.{arith}
use lib.ListN.{length, length-append}
use lib.IntN.{ℤ}
use Rattle.base.proofs.Bools.{no_answer}
use Rattle.base.specs.Answer.{Answer, refused, answer, and_then, number_of, refusal_of}
use Rattle.base.specs.declared.refusals.Refusal.{Refusal}
use Rattle.frame.specs.Table.{HEAD, EDGE, line_length}
use Rattle.frame.specs.Line.{line_of}
use Rattle.frame.specs.Kinds.{of_head}
use Rattle.frame.specs.declared.kinds.Edge.{Edge}
use Rattle.frame.proofs.Lines.{length-line}
use Rattle.network_frames.specs.Frames.{head_refusal}
use Rattle.network_frames.proofs.Passed.{head_passed}
use Rattle.network_text.specs.Text.{Valid, meant, Edges, interrupted, checked, meaning_of, in_columns}
use Rattle.network_text.specs.Text.{edges_in, edges_text, network_text, network_length, write_network}
use Rattle.base.proofs.Answers.{unless-refused, unless-next, number-above}
use Rattle.network_text.proofs.Head.{checked-numbered}
use Rattle.network_text.proofs.Whole.{all_of, AllPassed, complete, valid}
use Rattle.network_text.proofs.Writing.{length-text}

-- columns in which all edges are there
pub record Full (k place : ℕ) (ls hs : List ℕ) (cs : List ℤ) (es : List Edge) : Type 0 where
  pub edges : es ≡ edges_in place ls hs cs
  pub count : length es ≡ k
  pub lows : map (λ e. e.lower) es ≡ ls
  pub highs : map (λ e. e.higher) es ≡ hs
  pub costs : map (λ e. e.cost) es ≡ cs

not-all : (es : List Edge) → interrupted ≡ all_of es → ⊥
unfolding all_of
not-all [] x = no_answer (cc)
not-all (e ∷ es) x = no_answer (cc)

pub full : (k place : ℕ) (ls hs : List ℕ) (cs : List ℤ) (es : List Edge) → in_columns k place ls hs cs ≡ all_of es
    → Full k place ls hs cs es
unfolding in_columns edges_in all_of
full zero place [] [] [] [] x = record { edges = refl; count = refl; lows = refl; highs = refl; costs = refl }
full zero place [] [] [] (e ∷ es) x = no_answer (cc)
full zero place (l ∷ ls) hs cs es x = absurd (not-all es x)
full zero place [] (h ∷ hs) cs es x = absurd (not-all es x)
full zero place [] [] (c ∷ cs) es x = absurd (not-all es x)
full (suc k) place [] hs cs es x = absurd (not-all es x)
full (suc k) place (l ∷ ls) [] cs es x = absurd (not-all es x)
full (suc k) place (l ∷ ls) (h ∷ hs) [] es x = absurd (not-all es x)
full (suc k) place (l ∷ ls) (h ∷ hs) (c ∷ cs) [] x = no_answer (cc)
full (suc k) place (l ∷ ls) (h ∷ hs) (c ∷ cs) (e ∷ es) x =
    let f = full k (suc place) ls hs cs es (cc) in
    let u : e ≡ record { number = place; lower = l; higher = h; cost = c } = cc in
    rw u
    (record {
      edges = rw f.edges;
      count = ap suc f.count;
      lows = rw f.lows;
      highs = rw f.highs;
      costs = rw f.costs;
    })

pub length-network : (n r : ℕ) (es : List Edge) → length (network_text n r es) ≡ network_length (length es)
unfolding network_text network_length
length-network n r es =
    let f = of_head (record { vertices = n; reserved = r }) in
    length-append (line_of HEAD f) (edges_text es) ∙ omega (arith, length-line HEAD f, length-text es)

module _ (n r : ℕ) (low high : List ℕ) (cost : List ℤ) where
  abbrev edges : Edges
  edges = in_columns (2 * n) 0 low high cost

  pub head-turned-down : 0 < head_refusal n r → write_network (meant n r low high cost) ≡ refused (head_refusal n r)
  unfolding write_network
  head-turned-down h = unless-refused (head_refusal n r) _ h

  -- the edges that pass are those of the columns
  pub record Whole : Type 0 where
    pub text_is : write_network (meant n r low high cost) ≡ answer (network_text n r (edges_in 0 low high cost))
    pub long : length (network_text n r (edges_in 0 low high cost)) ≡ network_length (2 * n)
    pub sound : Valid (meant n r low high cost)
    pub passed : AllPassed n 0 (edges_in 0 low high cost)

  module _ (h : head_refusal n r ≤ 0) where
    edges-decide : write_network (meant n r low high cost)
        ≡ and_then (checked n 0 edges) (λ es. answer (network_text n r es))
    unfolding write_network
    edges-decide = unless-next (head_refusal n r) _ h

    pub edges-turned-down : 0 < refusal_of (checked n 0 edges)
        → write_network (meant n r low high cost) ≡ refused (refusal_of (checked n 0 edges))
    unfolding refusal_of and_then
    edges-turned-down p = edges-decide ∙ go (checked n 0 edges) p
      where
        go : (a : Answer (List Edge)) → 0 < refusal_of a
            → and_then a (λ es. answer (network_text n r es)) ≡ refused (refusal_of a)
        go (refused k) p = refl
        go (answer es) p = absurd (omega arith)

    pub whole : refusal_of (checked n 0 edges) ≤ 0 → Whole
    unfolding refusal_of and_then meaning_of
    whole p = go (checked n 0 edges) refl p
      where
        go : (a : Answer (List Edge)) → checked n 0 edges ≡ a → refusal_of a ≤ 0 → Whole
        go (refused k) x p = absurd (omega (arith, ((checked-numbered n 0 edges).number k x).0))
        go (answer es) x p =
            let c = complete n 0 edges es x in
            let f = full (2 * n) 0 low high cost es c.all in
            record {
              text_is = edges-decide ∙ rw (x, f.edges);
              long = rw (← f.edges) (length-network n r es ∙ ap network_length f.count);
              sound = rw (f.lows, f.highs, f.costs) at (valid n r es (head_passed n r h) c.passed f.count);
              passed = rw f.edges at c.passed;
            }

  -- so it is by the tests of the head and of the edges: refused where the edges are, and written where both are passed
  pub edges-refused : refusal_of {M = Unit} (answer tt) ≡ head_refusal n r → (k : Refusal)
      → refusal_of {M = Unit} (refused (number_of k)) ≡ refusal_of (checked n 0 edges)
      → write_network (meant n r low high cost) ≡ refused (number_of k)
  unfolding refusal_of
  edges-refused h k x =
      let above = number-above k in
      rw x (edges-turned-down (omega arith) (omega arith))

  pub tested : refusal_of {M = Unit} (answer tt) ≡ head_refusal n r
      → refusal_of {M = Unit} (answer tt) ≡ refusal_of (checked n 0 edges) → Whole
  unfolding refusal_of
  tested h p = whole (omega arith) (omega arith)

  -- and the text has the length that its lines come to
  pub measured : Whole → {head edge : ℕ} → head ≡ line_length HEAD → edge ≡ line_length EDGE
      → head + 2 * n * edge ≡ length (network_text n r (edges_in 0 low high cost))
  unfolding network_length
  measured w h e = rw (h, e) (sym w.long)
