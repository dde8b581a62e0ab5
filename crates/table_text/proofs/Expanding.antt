-- The edges that spans stand for: how many they are, and their columns.
-- Assumes nothing.
use mathlib.Core.Path.{◌≡◌, refl, sym, ◌∙◌, ap}
use mathlib.Core.List.{List, [], ◌∷◌, ◌++◌, map, map-append, append_assoc, append-nil}
use Prim.Native.Nat.{ℕ, zero, suc, ◌+◌, ◌<◌}
use native.Mathlib.Omega.{arith}
use native.Mathlib.Nat.{zero-add, add-zero, add_assoc, add-suc, suc-add}
use lib.ListN.{length, get_or, replicate, length-append}
use lib.Seq.{get_or-append-add}
use Rattle.frame.specs.declared.kinds.Span.{Span}
use Rattle.frame.specs.declared.kinds.Edge.{Edge}
use Rattle.table_text.specs.Text.{weights, copies, expanded}

pub length-copies : (w k : ℕ) (s : Span) → length (copies w k s) ≡ w
unfolding copies
length-copies zero k s = refl
length-copies (suc w) k s = ap suc (length-copies w (suc k) s)

pub length-expanded : (k : ℕ) (ss : List Span) → length (expanded k ss) ≡ weights ss
unfolding expanded weights
length-expanded k [] = refl
length-expanded k (s ∷ ss) =
    length-append (copies s.weight k s) (expanded (k + s.weight) ss)
    ∙ omega (arith, length-copies s.weight k s, length-expanded (k + s.weight) ss)

-- one span more
pub weights-more : (ss : List Span) (s : Span) → weights (ss ++ (s ∷ [])) ≡ weights ss + s.weight
unfolding weights
weights-more [] s = omega arith
weights-more (r ∷ ss) s = omega (arith, weights-more ss s)

expanded-append : (k : ℕ) (ss rs : List Span)
    → expanded k (ss ++ rs) ≡ expanded k ss ++ expanded (k + weights ss) rs
unfolding expanded weights
expanded-append k [] rs = rw add-zero
expanded-append k (s ∷ ss) rs =
    rw (expanded-append (k + s.weight) ss rs, ← add_assoc)
    (sym (append_assoc (copies s.weight k s) (expanded (k + s.weight) ss) _))

expanded-more : (k : ℕ) (ss : List Span) (s : Span)
    → expanded k (ss ++ (s ∷ [])) ≡ expanded k ss ++ copies s.weight (k + weights ss) s
unfolding expanded
expanded-more k ss s = expanded-append k ss (s ∷ []) ∙ rw append-nil

-- the edges of a span stand behind those of the spans before it, in a row
copies_at : (w k : ℕ) (s : Span) (es : List Edge) (c : ℕ) (d : Edge) → c < w
    → get_or (copies w k s ++ es) c d
    ≡ record { number = k + c; lower = s.lower; higher = s.higher; cost = s.cost }
unfolding copies
copies_at zero k s es c d h = absurd (omega arith)
copies_at (suc w) k s es zero d h = rw add-zero
copies_at (suc w) k s es (suc c) d h = copies_at w (suc k) s es c d (omega arith) ∙ rw (suc-add, add-suc)

pub numbered-on : (before : List Span) (s : Span) (behind : List Span) (c : ℕ) (d : Edge) → c < s.weight
    → get_or (expanded 0 (before ++ (s ∷ behind))) (weights before + c) d
    ≡ record { number = weights before + c; lower = s.lower; higher = s.higher; cost = s.cost }
unfolding expanded
numbered-on before s behind c d h =
    let own = copies_at s.weight (weights before) s (expanded (weights before + s.weight) behind) c d h in
    let seam =
    get_or-append-add (expanded 0 before) (expanded (weights before) (s ∷ behind)) c d in
    rw (expanded-append 0 before (s ∷ behind), zero-add) (rw (length-expanded 0 before) at seam ∙ own)

-- a part of a span's edges: as many times the span's
pub part-copies : {A : Type 0} (part : Edge → A) (a : A) (s : Span) (w k : ℕ)
    → ((j : ℕ) → part (record { number = j; lower = s.lower; higher = s.higher; cost = s.cost }) ≡ a)
    → map part (copies w k s) ≡ replicate w a
unfolding copies
part-copies part a s zero k e = refl
part-copies part a s (suc w) k e = rw (e k, part-copies part a s w (suc k) e)

pub part-more : {A : Type 0} (part : Edge → A) (a : A) (ss : List Span) (s : Span)
    → ((j : ℕ) → part (record { number = j; lower = s.lower; higher = s.higher; cost = s.cost }) ≡ a)
    → map part (expanded 0 (ss ++ (s ∷ []))) ≡ map part (expanded 0 ss) ++ replicate s.weight a
part-more part a ss s e =
    rw (expanded-more 0 ss s, map-append, part-copies part a s s.weight (0 + weights ss) e)
