-- Heads and spans that are not refused: what they then say.
-- Assumes nothing.
use mathlib.Core.Path.{◌≡◌, refl}
use mathlib.Core.Bool.{Bool, true, false, cond, ◌&&◌, ◌||◌, or-true}
use mathlib.Core.Logic.{◌⊎◌, inl, inr}
use mathlib.Core.List.{List}
use Prim.Native.Nat.{ℕ, zero, suc, ◌*◌, ◌≤◌, ◌<◌}
use native.Mathlib.Omega.{arith}
use lib.Dec.{leb, ltb, eqb}
use borrow.Author.Tests.{ltb-true, leb-true, lt-ltb, le-leb, eq-eqb}
use Rattle.base.specs.Answer.{Answer, refused, answer, and_then, unless, told}
use Rattle.base.specs.Limits.{cost_ok}
use Rattle.base.specs.declared.refusals.Refusal.{Refusal}
use Rattle.std.proofs.Common.{Result}
use Rattle.frame.proofs.Runs.{read_as}
use Rattle.base.specs.Refusals.{COST, ENDS, WEIGHT, TOTAL}
use Rattle.base.proofs.Bools.{no_answer, never, eqb_is}
use Rattle.frame.specs.Table.{TABLE_HEAD}
use Rattle.frame.specs.Line.{read_line}
use Rattle.frame.specs.Kinds.{table_head_of}
use Rattle.frame.specs.declared.line.Fields.{Fields}
use Rattle.frame.specs.declared.kinds.TableHead.{TableHead}
use Rattle.frame.specs.declared.kinds.Span.{Span}
use Rattle.network_frames.specs.Frames.{head_refusal}
use Rattle.network_frames.proofs.Passed.{HeadPassed, head_passed}
use Rattle.table_text.specs.Text.{SpanFine}
use Rattle.table_text.specs.Frames.{count_refusal, least_weight, most_weight, weight_ok, above, span_refusal}
use Rattle.table_text.specs.Frames.{table_head_in, read_table_head}

-- a span that is not refused, and one that is fine
above-is : (l h : ℕ) (s : Span) → above l h s ≡ true → (l < s.lower) ⊎ ((l ≡ s.lower) × (h < s.higher))
unfolding above
above-is l h s x = go (ltb l s.lower) refl (eqb l s.lower) refl (ltb h s.higher) refl x
  where
    go : (a : Bool) → ltb l s.lower ≡ a → (b : Bool) → eqb l s.lower ≡ b → (c : Bool) → ltb h s.higher ≡ c
        → (a || (b && c)) ≡ true → (l < s.lower) ⊎ ((l ≡ s.lower) × (h < s.higher))
    go true p b q c r x = inl (ltb-true l s.lower p)
    go false p true q true r x = inr (eqb_is q, ltb-true h s.higher r)
    go false p true q false r x = never x
    go false p false q c r x = never x

is-above : (l h : ℕ) (s : Span) → (l < s.lower) ⊎ ((l ≡ s.lower) × (h < s.higher)) → above l h s ≡ true
unfolding above
is-above l h s (inl x) = rw (lt-ltb l s.lower x)
is-above l h s (inr x) =
    rw (eq-eqb l s.lower x.0, lt-ltb h s.higher x.1, or-true)

pub span-passed : (n l h : ℕ) (s : Span) → span_refusal n l h s ≤ 0 → SpanFine n l h s
unfolding span_refusal weight_ok
span-passed n l h s x =
    go (ltb s.lower s.higher) refl (ltb s.higher n) refl (leb least_weight s.weight) refl
    (leb s.weight most_weight) refl (above l h s) refl (cost_ok s.cost) refl x
  where
    go : (a : Bool) → ltb s.lower s.higher ≡ a → (b : Bool) → ltb s.higher n ≡ b
        → (i : Bool) → leb least_weight s.weight ≡ i → (j : Bool) → leb s.weight most_weight ≡ j
        → (d : Bool) → above l h s ≡ d → (e : Bool) → cost_ok s.cost ≡ e
        → cond (a && b) (cond ((i && j) && d) (cond e 0 COST) WEIGHT) ENDS ≤ 0 → SpanFine n l h s
    go true p true q true v true w true z true t x =
        record {
          rising = ltb-true _ _ p;
          inside = ltb-true _ _ q;
          least = leb-true _ _ v;
          most = leb-true _ _ w;
          higher_pair = above-is l h s z;
          limited = t;
        }
    go true p true q true v true w true z false t x = absurd (omega arith)
    go true p true q true v true w false z e t x = absurd (omega arith)
    go true p true q true v false w d z e t x = absurd (omega arith)
    go true p true q false v j w d z e t x = absurd (omega arith)
    go true p false q i v j w d z e t x = absurd (omega arith)
    go false p b q i v j w d z e t x = absurd (omega arith)

pub span-unrefused : (n l h : ℕ) (s : Span) → SpanFine n l h s → span_refusal n l h s ≡ 0
unfolding span_refusal weight_ok
span-unrefused n l h s f =
    rw (
      lt-ltb s.lower s.higher f.rising,
      lt-ltb s.higher n f.inside,
      le-leb least_weight s.weight f.least,
      le-leb s.weight most_weight f.most,
      is-above l h s f.higher_pair,
      f.limited,
    )

-- what a head says that is read
pub record TableHeadPassed (n r k : ℕ) : Type 0 where
  pub network : HeadPassed n r
  pub spans_few : k ≤ 2 * n

count-passed : (n k : ℕ) → count_refusal n k ≤ 0 → k ≤ 2 * n
unfolding count_refusal
count-passed n k x = go (leb k (2 * n)) refl x
  where
    go : (b : Bool) → leb k (2 * n) ≡ b → cond b 0 TOTAL ≤ 0 → k ≤ 2 * n
    go true e x = leb-true _ _ e
    go false e x = absurd (omega arith)

pub count-unrefused : (n k : ℕ) → k ≤ 2 * n → count_refusal n k ≡ 0
unfolding count_refusal
count-unrefused n k x = rw (le-leb k (2 * n) x)

module _ (t : List ℕ) {p : TableHead × ℕ} (x : answer p ≡ read_table_head t) where
  pub table-head-fine : TableHeadPassed p.0.vertices p.0.reserved p.0.spans
  unfolding read_table_head table_head_in and_then unless
  table-head-fine = go (read_line TABLE_HEAD t 0) x
    where
      -- by the head's own refusals
      own : (f : TableHead) (place j : ℕ) → head_refusal f.vertices f.reserved ≡ j
          → (k : ℕ) → count_refusal f.vertices f.spans ≡ k
          → answer p ≡ unless j (unless k (answer (f, place)))
          → TableHeadPassed p.0.vertices p.0.reserved p.0.spans
      own f place zero e zero d y =
          let q : p ≡ (f, place) = cc in
          rw q
          (record {
            network = head_passed f.vertices f.reserved (omega arith);
            spans_few = count-passed f.vertices f.spans (omega arith);
          })
      own f place zero e (suc k) d y = no_answer (cc)
      own f place (suc j) e k d y = no_answer (cc)

      go : (a : Answer (Fields × ℕ)) → answer p ≡ and_then a table_head_in
          → TableHeadPassed p.0.vertices p.0.reserved p.0.spans
      go (refused k) y = no_answer (cc)
      go (answer l) y = own (table_head_of l.0) l.1 _ refl _ refl y

-- a head that is read, by the case that is found
pub head_as : {r case : Result (TableHead × ℕ) Refusal} {a : Answer (TableHead × ℕ)} → told r ≡ a → r ≡ case → told case ≡ a
head_as x e = read_as e x
