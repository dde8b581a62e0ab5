-- Edges taken one after the other: what is known while a list is read, and while edges to be written are checked.
-- Assumes nothing.
use mathlib.Core.Path.{◌≡◌, refl, sym, ◌∙◌}
use mathlib.Core.Bool.{Bool, true, false}
use mathlib.Core.List.{List, [], ◌∷◌, ◌++◌, map}
use Prim.Native.Nat.{ℕ, suc, ◌+◌, ◌*◌, ◌≤◌, ◌<◌}
use native.Mathlib.Omega.{arith}
use native.Mathlib.Numerals.{add-one}
use lib.Dec.{leb, ltb}
use lib.ListN.{length, drop, get_or, length-append, drop_of_length-le}
use lib.Seq.{drop-cons}
use borrow.Author.Tests.{leb-true, ltb-true, le-leb, lt-ltb}
use Rattle.base.specs.Answer.{Answer, refused, answer}
use Rattle.base.specs.Limits.{vertices_ok}
use Rattle.base.specs.Refusals.{FORM, VERTICES, UNLISTED}
use Rattle.base.proofs.Bools.{and_left, and_right}
use Rattle.base.proofs.Taking.{first, behind, behind-none, behind-next, behind-refused, behind-all}
use Rattle.frame.specs.Frames.{Frames, done, broken, frame, listed}
use Rattle.frame.specs.Kinds.{kept_of}
use Rattle.frame.specs.declared.line.Fields.{Fields}
use Rattle.list_text.specs.Text.{Meaning, frame_of, may_follow, rising_from, list_in}

-- the edges taken so far and those of the frames that are left make the whole answer; each is above the one before, so
-- there are no more of them than the least number that may follow
pub record Taken (n : ℕ) (whole : Answer Meaning) (taken : List ℕ) (count least : ℕ) (left : Frames) : Type 0 where
  pub all : behind taken (rising_from n least left) ≡ whole
  pub counted : length taken ≡ count
  pub few : count ≤ least
  pub limit : least ≤ 2 * n

pub out-of-limits : (n : ℕ) (fs : Frames) → vertices_ok n ≡ false → refused VERTICES ≡ list_in n fs
unfolding list_in
out-of-limits n fs e = rw e

pub taken_none : (n : ℕ) (fs : Frames) → vertices_ok n ≡ true → Taken n (list_in n fs) [] 0 0 fs
unfolding list_in
taken_none n fs e =
    record { all = rw e (behind-none (rising_from n 0 fs)); counted = refl; few = omega arith; limit = omega arith }

-- an edge that may follow
pub record MayFollow (n least e : ℕ) : Type 0 where
  pub above : least ≤ e
  pub inside : e < 2 * n

pub may-follow : (n least e : ℕ) → may_follow n least e ≡ true → MayFollow n least e
may-follow n least e h =
    record {
      above = leb-true least e (and_left (leb least e) (ltb e (2 * n)) h);
      inside = ltb-true e (2 * n) (and_right (leb least e) (ltb e (2 * n)) h);
    }

-- the same, as a test in the code finds it
pub tested : {n count least : ℕ} {whole : Answer Meaning} {taken : List ℕ} {left : Frames}
    → Taken n whole taken count least left → (e : ℕ) (r : Bool) → r ≡ may_follow n least e → r ≡ true
    → MayFollow n least e
tested {n} {count} {least} t e r p q = may-follow n least e (sym p ∙ q)

module _ (n : ℕ) (whole : Answer Meaning) (taken : List ℕ) (count least : ℕ) (left : Frames)
    (t : Taken n whole taken count least left) where
  pub taken-broken : left ≡ broken → refused FORM ≡ whole
  unfolding rising_from
  taken-broken e = sym (behind-refused taken FORM) ∙ rw e at t.all

  pub taken-all : left ≡ done → answer taken ≡ whole
  unfolding rising_from
  taken-all e = sym (behind-all taken) ∙ rw e at t.all

  module _ (f : Fields) (later : Frames) (e : left ≡ frame f later) where
    pub taken-unlisted : may_follow n least (kept_of f).edge ≡ false → refused UNLISTED ≡ whole
    unfolding rising_from
    taken-unlisted h = sym (behind-refused taken UNLISTED) ∙ rw (e, h) at t.all

    pub taken_next : MayFollow n least (kept_of f).edge
        → Taken n whole (taken ++ ((kept_of f).edge ∷ [])) (count + 1) ((kept_of f).edge + 1) later
    unfolding rising_from first
    taken_next o =
        let edge = (kept_of f).edge in
        record {
          all =
              rw add-one
              (sym (behind-next taken edge (rising_from n (suc edge) later))
              ∙ rw (e, le-leb least edge o.above, lt-ltb edge (2 * n) o.inside) at t.all);
          counted = length-append taken (edge ∷ []) ∙ omega (arith, t.counted);
          few = omega arith;
          limit = omega arith;
        }

-- the frames of edges that are to be written, from a place on
pub listed_next : (es : List ℕ) (i : ℕ) → i < length es
    → listed (map frame_of (drop i es)) ≡ frame (frame_of (get_or es i 0)) (listed (map frame_of (drop (i + 1) es)))
unfolding listed
listed_next es i h = rw (add-one, drop-cons es i 0)

pub listed-end : (es : List ℕ) (i : ℕ) → length es ≤ i → listed (map frame_of (drop i es)) ≡ done
unfolding listed
listed-end es i h = rw (drop_of_length-le es h)
