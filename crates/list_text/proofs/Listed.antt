-- Lists that are not refused: their frames are all there and name their edges, which rise and are the network's.
-- Assumes nothing.
use mathlib.Core.Path.{◌≡◌, refl, sym, ◌∙◌, ap}
use mathlib.Core.Bool.{Bool, true, false, cond}
use mathlib.Core.List.{List, [], ◌∷◌, map}
use Prim.Native.Nat.{ℕ, suc, ◌+◌, ◌*◌, ◌≤◌, ◌<◌}
use native.Mathlib.Omega.{arith}
use lib.ListN.{length, get_or, replicate}
use Rattle.base.specs.Answer.{Answer, refused, answer, and_then}
use Rattle.base.specs.Limits.{vertices_ok, vertex_limit, edge_limit}
use Rattle.base.specs.Refusals.{FORM, VERTICES, UNLISTED}
use Rattle.base.specs.Words.{AllBelow}
use Rattle.base.proofs.Bools.{no_answer}
use Rattle.base.proofs.LimitLaws.{vertices-within}
use Rattle.base.proofs.Numbered.{Numbered, refused-by, then-meeting}
use Rattle.base.proofs.Numbered.{answered as answered-by}
use Rattle.base.proofs.Picks.{Rising, rising-below}
use Rattle.base.proofs.Words.{below_at}
use Rattle.frame.specs.Table.{KEPT}
use Rattle.frame.specs.Kinds.{kept_of}
use Rattle.frame.specs.Frames.{Frames, done, broken, frame, frames_to_end, listed, AllFit}
use Rattle.frame.specs.declared.line.Fields.{Fields}
use Rattle.frame.proofs.Named.{kept_back}
use Rattle.list_text.specs.Text.{Meaning, frame_of, may_follow, rising_from, list_in, read_list}
use Rattle.list_text.proofs.Taken.{may-follow}

-- the edge that a frame names
unfoldable pub named_edge : Fields → ℕ
named_edge f = (kept_of f).edge

-- what an answer says of its frames
pub record Answered (n least : ℕ) (fs : Frames) (m : Meaning) : Type 0 where
  pub frames : List Fields
  pub all : fs ≡ listed frames
  pub edges : m ≡ map named_edge frames
  pub rises : Rising least (2 * n) m
  pub few : least ≤ 2 * n → least + length m ≤ 2 * n

answered : (n least : ℕ) (fs : Frames) (m : Meaning) → rising_from n least fs ≡ answer m → Answered n least fs m
unfolding rising_from listed and_then named_edge
answered n least done m e =
    let p : m ≡ [] = cc in
    rw p (record { frames = []; all = refl; edges = refl; rises = tt; few = λ h. omega arith })
answered n least broken m e = no_answer (cc)
answered n least (frame f fs) m e =
    let later = rising_from n (suc (named_edge f)) fs in
    go (may_follow n least (named_edge f)) refl later (answered n (suc (named_edge f)) fs) e
  where
    go : (b : Bool) → may_follow n least (named_edge f) ≡ b → (a : Answer Meaning)
        → ((es : Meaning) → a ≡ answer es → Answered n (suc (named_edge f)) fs es)
        → cond b (and_then a (λ es. answer (named_edge f ∷ es))) (refused UNLISTED) ≡ answer m
        → Answered n least (frame f fs) m
    go false t a k e = no_answer (cc)
    go true t (refused j) k e = no_answer (cc)
    go true t (answer es) k e =
        let p : m ≡ named_edge f ∷ es = cc in
        let o = may-follow n least (named_edge f) t in
        let w = k es refl in
        rw p
        (record {
          frames = f ∷ w.frames;
          all = ap (frame f) w.all;
          edges = ap (λ (l : List ℕ). named_edge f ∷ l) w.edges;
          rises = (o.above, o.inside, w.rises);
          few = λ h. omega (arith, w.few o.inside);
        })

pub frames-answered : (n : ℕ) (fs : Frames) (m : Meaning) → list_in n fs ≡ answer m
    → (n ≤ vertex_limit) × Answered n 0 fs m
unfolding list_in
frames-answered n fs m e = go (vertices_ok n) refl e
  where
    go : (b : Bool) → vertices_ok n ≡ b → cond b (rising_from n 0 fs) (refused VERTICES) ≡ answer m
        → (n ≤ vertex_limit) × Answered n 0 fs m
    go true h e = ((vertices-within n h).1, answered n 0 fs m e)
    go false h e = no_answer (cc)

-- a list has at most as many edges as a network
pub few-edges : (n : ℕ) (fs : Frames) (m : Meaning) → list_in n fs ≡ answer m → length m ≤ edge_limit
few-edges n fs m e = let w = frames-answered n fs m e in omega (arith, w.1.few (omega arith))

-- the refusals of a list are 1, 2 and 14
rising-numbered : (n least : ℕ) (fs : Frames) → Numbered UNLISTED (rising_from n least fs)
unfolding rising_from
rising-numbered n least done = answered-by []
rising-numbered n least broken = refused-by FORM (omega arith) (omega arith)
rising-numbered n least (frame f fs) =
    let e = (kept_of f).edge in
    go (may_follow n least e)
    (then-meeting (rising_from n (suc e) fs) _ (rising-numbered n (suc e) fs) (λ es. answered-by (e ∷ es)))
  where
    go : (b : Bool) {a : Answer Meaning} → Numbered UNLISTED a → Numbered UNLISTED (cond b a (refused UNLISTED))
    go true w = w
    go false w = refused-by UNLISTED (omega arith) (omega arith)

pub list-numbered : (n : ℕ) (fs : Frames) → Numbered UNLISTED (list_in n fs)
unfolding list_in
list-numbered n fs = go (vertices_ok n)
  where
    go : (b : Bool) → Numbered UNLISTED (cond b (rising_from n 0 fs) (refused VERTICES))
    go true = rising-numbered n 0 fs
    go false = refused-by VERTICES (omega arith) (omega arith)

pub read-numbered : (n : ℕ) (t : List ℕ) → Numbered UNLISTED (read_list n t)
unfolding read_list
read-numbered n t = list-numbered n (frames_to_end KEPT t)

-- what a list that reads holds: at most so many edges, and each of them is the network's
module _ (n : ℕ) (t : List ℕ) (m : Meaning) (e : read_list n t ≡ answer m) where
  pub list-few : length m ≤ edge_limit
  list-few = unfold read_list in few-edges n (frames_to_end KEPT t) m e

  pub list-rising : Rising 0 (2 * n) m
  list-rising = unfold read_list in (frames-answered n (frames_to_end KEPT t) m e).1.rises

  pub list-below : AllBelow (2 * n) m
  list-below = rising-below 0 (2 * n) m list-rising

  pub list-below-at : (i : ℕ) → i < length m → get_or m i 0 < 2 * n
  list-below-at = below_at (2 * n) m list-below

-- frames and the edges that they name
edges-frames : (m : Meaning) → map named_edge (map frame_of m) ≡ m
unfolding named_edge
edges-frames [] = refl
edges-frames (e ∷ es) = ap (λ (l : List ℕ). e ∷ l) (edges-frames es)

pub frames-edges : (fs : List Fields) → AllFit (replicate (length fs) KEPT) fs → map frame_of (map named_edge fs) ≡ fs
unfolding named_edge
frames-edges [] x = refl
frames-edges (f ∷ fs) x = rw (kept_back f x.0, frames-edges fs x.1)

listed_same : (fs gs : List Fields) → listed fs ≡ listed gs → fs ≡ gs
unfolding listed
listed_same [] [] e = refl
listed_same [] (g ∷ gs) e = no_answer (cc)
listed_same (f ∷ fs) [] e = no_answer (cc)
listed_same (f ∷ fs) (g ∷ gs) e =
    let p : f ≡ g = cc in
    let q : listed fs ≡ listed gs = cc in
    rw (p, listed_same fs gs q)

-- edges that are to be written and are not refused are the answer's
pub same_edges : (n : ℕ) (es m : Meaning) → list_in n (listed (map frame_of es)) ≡ answer m → m ≡ es
same_edges n es m e =
    let w = (frames-answered n (listed (map frame_of es)) m e).1 in
    w.edges ∙ ap (map named_edge) (sym (listed_same (map frame_of es) w.frames w.all)) ∙ edges-frames es
