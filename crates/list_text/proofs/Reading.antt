-- What is known while an audit list is read into a working column, and what the column says of a list that was read.
-- Assumes nothing.
use mathlib.Core.Path.{◌≡◌, refl, sym, ap}
use mathlib.Core.Bool.{true, false}
use mathlib.Core.List.{List, [], ◌∷◌, ◌++◌}
use Prim.Native.Nat.{ℕ, ◌+◌, ◌≤◌, ◌<◌}
use native.Mathlib.Omega.{arith}
use lib.ListN.{length, drop, set}
use Rattle.std.proofs.Common.{Ok, Err}
use Rattle.base.specs.Answer.{Answer, refused, answer, number_of, replied}
use Rattle.base.specs.Limits.{vertices_ok, vertex_limit}
use Rattle.base.specs.declared.refusals.Refusal.{Refusal}
use Rattle.base.specs.declared.refusals.Refusal.TheVariants as refusal
use Rattle.base.proofs.Answers.{replied-refused, replied-done}
use Rattle.base.proofs.Held.{Storing, storing-none, storing-next, Starts, held-starts}
use Rattle.base.proofs.LimitLaws.{vertices-within}
use Rattle.frame.specs.Table.{KEPT}
use Rattle.frame.specs.Line.{read_line}
use Rattle.frame.specs.Kinds.{kept_of}
use Rattle.frame.specs.Frames.{frames_to_end}
use Rattle.frame.specs.declared.line.Fields.{Fields}
use Rattle.frame.specs.declared.kinds.Kept.{Kept}
use Rattle.frame.proofs.Runs.{Next, end-next, end-broken, end-done}
use Rattle.list_text.specs.Text.{Meaning, may_follow, read_list, ListRead}
use Rattle.list_text.proofs.Taken.{Taken, MayFollow, out-of-limits, taken_none, taken-broken, taken-unlisted}
use Rattle.list_text.proofs.Taken.{taken_next, taken-all}

-- some edges are taken, and the column starts with them
pub record Reading (n : ℕ) (text edges₀ edges : List ℕ) (at least count : ℕ) : Type 0 where
  pub taken : List ℕ
  pub known : Taken n (read_list n text) taken count least (frames_to_end KEPT (drop at text))
  pub column : Storing taken edges₀ edges
  pub within : at ≤ length text
  pub few : n ≤ vertex_limit

-- what the reader replies where the list is refused
list-refused : {a : Answer Meaning} {edges₀ edges : List ℕ} {r : Refusal} → refused (number_of r) ≡ a
    → length edges ≡ length edges₀ → ListRead a edges₀ edges (Err r)
unfolding replied
list-refused e h = rw (← e) (record { reply = refl; holds = h })

module _ (n : ℕ) (text : List ℕ) (edges : List ℕ) where
  pub reading-limits : vertices_ok n ≡ false → ListRead (read_list n text) edges edges (Err refusal.Vertices)
  unfolding read_list
  reading-limits e = list-refused (out-of-limits n (frames_to_end KEPT text) e) refl

  pub reading-none : vertices_ok n ≡ true → Reading n text edges edges 0 0 0
  unfolding read_list
  reading-none e =
      record {
        taken = [];
        known = taken_none n (frames_to_end KEPT text) e;
        column = storing-none;
        within = omega arith;
        few = (vertices-within n e).1;
      }

module _ {n : ℕ} {text edges₀ edges : List ℕ} {at least count : ℕ}
    (r : Reading n text edges₀ edges at least count) where
  pub reading-broken : {k : ℕ} → at < length text → refused k ≡ read_line KEPT text at
      → ListRead (read_list n text) edges₀ edges (Err refusal.Form)
  reading-broken h e =
      list-refused (taken-broken _ _ _ _ _ _ r.known (end-broken KEPT at text h e)) r.column.size

  -- an edge that is read
  module _ {f : Fields} {next : ℕ} (e : Next KEPT at text f next) {k : Kept} (q : k ≡ kept_of f) where
    pub reading-unlisted : may_follow n least k.edge ≡ false
        → ListRead (read_list n text) edges₀ edges (Err refusal.Unlisted)
    reading-unlisted h =
        let there = end-next KEPT at text f next e in
        list-refused (taken-unlisted _ _ _ _ _ _ r.known f _ there (rw q at h)) r.column.size

    pub reading-next : MayFollow n least k.edge → count < length edges₀
        → Reading n text edges₀ (set edges count k.edge) next (k.edge + 1) (count + 1)
    reading-next o h =
        record {
          taken = r.taken ++ (k.edge ∷ []);
          known = rw q (taken_next _ _ _ _ _ _ r.known f _ (end-next KEPT at text f next e) (rw q at o));
          column = storing-next r.column r.known.counted h k.edge;
          within = e.within;
          few = r.few;
        }

  pub reading-all : length text ≤ at → ListRead (read_list n text) edges₀ edges (Ok count)
  unfolding replied
  reading-all h =
      rw (← taken-all _ _ _ _ _ _ r.known (end-done KEPT at text h))
      (record { reply = ap answer (sym r.known.counted); holds = r.column.holds })

-- a list that was read into a column
pub record Stored (a : Answer Meaning) (count : ℕ) (edges : List ℕ) : Type 0 where
  pub meaning : Meaning
  pub is : a ≡ answer meaning
  pub starts : Starts count meaning edges

module _ {a : Answer Meaning} {edges₀ edges : List ℕ} where
  pub read-refused : {k : Refusal} → ListRead a edges₀ edges (Err k) → a ≡ refused (number_of k)
  read-refused {k} r = replied-refused a (number_of k) r.reply

  pub stored : {count : ℕ} → ListRead a edges₀ edges (Ok count) → Stored a count edges
  stored {count} r =
      let d = replied-done a count r.reply in
      record { meaning = d.0; is = d.1; starts = held-starts (λ m. m) edges₀ d.1 r.holds (sym d.2) }
