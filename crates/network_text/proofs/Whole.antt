-- Edges that are all there and have passed: what is known of them, and of the text that they are read from.
-- Assumes nothing.
use mathlib.Core.Path.{◌≡◌, refl, sym, ◌∙◌, ap}
use mathlib.Core.List.{List, [], ◌∷◌, map}
use Prim.Native.Nat.{ℕ, zero, suc, ◌+◌, ◌*◌, ◌<◌}
use native.Mathlib.Omega.{arith}
use native.Mathlib.Nat.{add-zero, add-suc, suc-add}
use lib.ListN.{length, get_or, replicate, length-map, length-replicate, get_or-map}
use lib.IntN.{pos}
use Rattle.base.proofs.Bools.{no_answer}
use Rattle.base.specs.Answer.{Answer, refused, answer, and_then, unless}
use Rattle.frame.specs.Table.{EDGE}
use Rattle.frame.specs.Kinds.{edge_of, of_edge}
use Rattle.frame.specs.Frames.{Frames, done, broken, frame, frames_of, listed, lines_of, AllFit}
use Rattle.frame.specs.declared.line.Fields.{Fields}
use Rattle.frame.specs.declared.kinds.Edge.{Edge}
use Rattle.frame.proofs.Whole.{whole, fit_count}
use Rattle.frame.proofs.Named.{edge-back}
use Rattle.network_frames.specs.Frames.{edge_refusal}
use Rattle.network_frames.proofs.Passed.{HeadPassed, EdgePassed, edge-passed}
use Rattle.network_text.specs.Text.{Valid, Edges, finished, interrupted, next, checked, meaning_of}
use Rattle.network_text.specs.Text.{in_frames, edges_of}

-- edges with nothing missing and nothing left over
unfoldable pub all_of : List Edge → Edges
all_of [] = finished
all_of (e ∷ es) = next e (all_of es)

-- each edge has passed at its place
abbrev pub AllPassed : ℕ → ℕ → List Edge → Type 0
AllPassed n place [] = Unit
AllPassed n place (e ∷ es) = EdgePassed n place e × AllPassed n (suc place) es

pub record Complete (n place : ℕ) (edges : Edges) (es : List Edge) : Type 0 where
  pub all : edges ≡ all_of es
  pub passed : AllPassed n place es

pub complete : (n place : ℕ) (edges : Edges) (es : List Edge) → checked n place edges ≡ answer es
    → Complete n place edges es
unfolding checked all_of unless and_then
complete n place finished [] x = record { all = refl; passed = tt }
complete n place finished (e ∷ es) x = no_answer (cc)
complete n place interrupted es x = no_answer (cc)
complete n place (next e later) es x =
    go (edge_refusal n place e) refl (checked n (suc place) later) refl es (complete n (suc place) later) x
  where
    go : (k : ℕ) → edge_refusal n place e ≡ k → (a : Answer (List Edge)) → checked n (suc place) later ≡ a
        → (es : List Edge)
        → ((fs : List Edge) → checked n (suc place) later ≡ answer fs → Complete n (suc place) later fs)
        → unless k (and_then a (λ fs. answer (e ∷ fs))) ≡ answer es → Complete n place (next e later) es
    go (suc k) p a q es h x = no_answer (cc)
    go zero p (refused j) q es h x = no_answer (cc)
    go zero p (answer fs) q [] h x = no_answer (cc)
    go zero p (answer fs) q (d ∷ es) h x =
        let u : d ≡ e = cc in
        let v : fs ≡ es = cc in
        let w = h fs q in
        record {
          all = rw (w.all, v, u);
          passed = rw (u, ← v) (edge-passed n place e (omega arith), w.passed);
        }

-- the edge at a number
pub passed-at : (n place : ℕ) (es : List Edge) (d : Edge) (i : ℕ) → AllPassed n place es → i < length es
    → EdgePassed n (place + i) (get_or es i d)
passed-at n place [] d i p h = absurd (omega arith)
passed-at n place (e ∷ es) d zero p h = rw add-zero p.0
passed-at n place (e ∷ es) d (suc i) p h = rw (add-suc, ← suc-add) (passed-at n (suc place) es d i p.1 (omega arith))

-- so a meaning of such edges is valid
pub valid : (n r : ℕ) (es : List Edge) → HeadPassed n r → AllPassed n 0 es → length es ≡ 2 * n
    → Valid (meaning_of n r es)
unfolding meaning_of
valid n r es h p k =
    record {
      many = h.many;
      few = h.few;
      reserved_one = h.inside;
      low_count = length-map es (λ e. e.lower) ∙ k;
      high_count = length-map es (λ e. e.higher) ∙ k;
      cost_count = length-map es (λ e. e.cost) ∙ k;
      rising =
          λ i l. rw (get_or-map (λ e. e.lower) es i none, get_or-map (λ e. e.higher) es i none)
          (at i l).rising;
      inside = λ i l. rw (get_or-map (λ e. e.higher) es i none) (at i l).inside;
      limited = λ i l. rw (get_or-map (λ e. e.cost) es i none) (at i l).limited;
    }
  where
    none : Edge
    none = record { number = 0; lower = 0; higher = 0; cost = pos 0 }

    at : (i : ℕ) → i < 2 * n → EdgePassed n (0 + i) (get_or es i none)
    at i l = passed-at n 0 es none i p (omega arith)

-- the frames of edges that are all there
frames-of : (fs : Frames) (es : List Edge) → in_frames fs ≡ all_of es
    → (gs : List Fields) × (fs ≡ listed gs) × (es ≡ map edge_of gs)
unfolding in_frames all_of listed
frames-of done [] x = ([], refl, refl)
frames-of done (e ∷ es) x = no_answer (cc)
frames-of broken [] x = no_answer (cc)
frames-of broken (e ∷ es) x = no_answer (cc)
frames-of (frame f fs) [] x = no_answer (cc)
frames-of (frame f fs) (e ∷ es) x =
    let r = frames-of fs es (cc) in
    let u : e ≡ edge_of f = cc in
    (f ∷ r.0, ap (frame f) r.1, ap (λ (d : Edge). d ∷ es) u ∙ ap (λ (ds : List Edge). edge_of f ∷ ds) r.2)

all_back : (k : ℕ) (gs : List Fields) → AllFit (replicate k EDGE) gs → map of_edge (map edge_of gs) ≡ gs
all_back zero [] x = refl
all_back zero (g ∷ gs) x = absurd x
all_back (suc k) [] x = absurd x
all_back (suc k) (g ∷ gs) x = rw (edge-back g x.0, all_back k gs x.1)

-- the text of k edges that are all there is that of their frames, and no other text has them
pub record Spelt (k : ℕ) (t : List ℕ) (es : List Edge) : Type 0 where
  pub count : length es ≡ k
  pub text_is : t ≡ lines_of (replicate k EDGE) (map of_edge es)
  pub fit : AllFit (replicate k EDGE) (map of_edge es)

pub spelt : (k : ℕ) (t : List ℕ) (es : List Edge) → edges_of k t ≡ all_of es → Spelt k t es
unfolding edges_of
spelt k t es x =
    let g = frames-of (frames_of (replicate k EDGE) t) es x in
    let w = whole (replicate k EDGE) t g.0 g.1 in
    let m : map of_edge es ≡ g.0 = ap (map of_edge) g.2 ∙ all_back k g.0 w.fit in
    record {
      count =
          sym (length-map es of_edge) ∙ ap length m ∙ sym (fit_count (replicate k EDGE) g.0 w.fit)
          ∙ length-replicate k EDGE;
      text_is = rw m w.text_is;
      fit = rw m w.fit;
    }
