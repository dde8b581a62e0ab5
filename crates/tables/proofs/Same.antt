-- A table and the network text that is written for it: what is loaded, accepted and planned of them is the same.
use mathlib.Core.Path.{◌≡◌, refl, sym, ◌∙◌, ap}
use mathlib.Core.Logic.{⊎_elim}
use mathlib.Core.List.{List}
use Prim.Native.Nat.{ℕ}
use native.Mathlib.Omega.{arith}
use Rattle.base.specs.Answer.{Answer, refused, answer, and_then}
use Rattle.base.specs.Refusals.{TOTAL}
use Rattle.base.proofs.Answers.{then-refused, then-answer}
use Rattle.base.proofs.Bools.{no_answer}
use Rattle.base.proofs.Numbered.{Numbered, answered, then-meeting, meeting-as}
use Rattle.network_text.specs.Text.{Meaning, network_text, read_network, write_network}
use Rattle.network_text.proofs.OneToOne.{read_written}
use Rattle.loading.specs.Known.{Known}
use Rattle.loading.specs.Loading.{network_of, load_network}
use Rattle.loading.proofs.Reading.{known_of}
use Rattle.graph.specs.declared.Network.{Network}
use Rattle.table_text.specs.Text.{Table, read_table, expanded, stands_for, read_expanded}
use Rattle.table_text.proofs.Reading.{expanded-read}
use Rattle.table_text.proofs.Meaning.{stands, expanded-table, expanded-valid, expanded-meeting}
use Rattle.claim.specs.Services.{accepting, accept_network, plan_of, plan_text, plan_given, plan_in}
use Rattle.tables.specs.Services.{load_table, accept_table, plan_table, table_plan_given, table_network}

-- ── what a table loads ──
pub table-known : (t : List ℕ) (g : Network) → load_table t ≡ answer g → Known g
unfolding load_table and_then
table-known t g e = go (read_expanded t) refl e
  where
    go : (a : Answer Meaning) → read_expanded t ≡ a → and_then a (λ m. answer (network_of m)) ≡ answer g → Known g
    go (refused k) q e = no_answer (cc)
    go (answer m) q e = let x : network_of m ≡ g = cc in rw x at (known_of (expanded-valid t m q))

-- its refusals are 1 to 16
pub table-numbered : (t : List ℕ) → Numbered TOTAL (load_table t)
unfolding load_table
table-numbered t =
    then-meeting (read_expanded t) _
    (meeting-as
    (λ k. ⊎_elim (λ w. (omega (arith, w.0), omega (arith, w.1)))
    (⊎_elim (λ e. (omega arith, omega arith)) (λ e. (omega arith, omega arith))))
    (expanded-meeting t))
    (λ m. answered (network_of m))

pub load-refused : (t : List ℕ) (k : ℕ) → read_expanded t ≡ refused k → load_table t ≡ refused k
unfolding load_table
load-refused t k e = then-refused (read_expanded t) _ k e

pub load_read : (t : List ℕ) (m : Meaning) → read_expanded t ≡ answer m → load_table t ≡ answer (network_of m)
unfolding load_table
load_read t m e = then-answer (read_expanded t) _ m e

-- what is accepted and planned of what a table loads
pub accept-loaded : (t : List ℕ) {a : Answer Network} → a ≡ load_table t → accepting a ≡ accept_table t
unfolding accept_table
accept-loaded t e = ap accepting e

pub plan-loaded : (t chain kept : List ℕ) {a : Answer Network} → a ≡ load_table t
    → plan_in (accepting a) chain kept ≡ table_plan_given t chain kept
unfolding table_plan_given
plan-loaded t chain kept e = ap (λ (a : Answer Network). plan_in a chain kept) (accept-loaded t e)

-- ── the network text of a table ──
pub network-refused : (t : List ℕ) (k : ℕ) → read_expanded t ≡ refused k → table_network t ≡ refused k
unfolding table_network
network-refused t k e = then-refused (read_expanded t) write_network k e

pub network-read : (t : List ℕ) (m : Meaning) → read_expanded t ≡ answer m → table_network t ≡ write_network m
unfolding table_network
network-read t m e = then-answer (read_expanded t) write_network m e

-- what a table reads is what its network text reads
pub record Stood (t : List ℕ) (s : List ℕ) : Type 0 where
  pub meaning : Meaning
  pub of_table : read_expanded t ≡ answer meaning
  pub of_network : read_network s ≡ answer meaning

pub stood : (t s : List ℕ) → table_network t ≡ answer s → Stood t s
unfolding table_network and_then
stood t s e = go (read_expanded t) refl e
  where
    go : (a : Answer Meaning) → read_expanded t ≡ a → and_then a write_network ≡ answer s → Stood t s
    go (refused k) q e = no_answer (cc)
    go (answer m) q e = record { meaning = m; of_table = q; of_network = read_written m s e }

-- every table that reads has one
pub table-written : (t : List ℕ) (m : Table) → read_table t ≡ answer m
    → table_network t ≡ answer (network_text m.vertices m.reserved (expanded 0 m.spans))
table-written t m e = network-read t (stands_for m) (expanded-read t e) ∙ (stands t m e).written

-- what is refused of it is refused of the table
pub refused-of-table : (t : List ℕ) (k : ℕ) → table_network t ≡ refused k → read_expanded t ≡ refused k
unfolding table_network and_then
refused-of-table t k e = go (read_expanded t) refl e
  where
    go : (a : Answer Meaning) → read_expanded t ≡ a → and_then a write_network ≡ refused k → read_expanded t ≡ refused k
    go (refused j) q e = q ∙ cc
    go (answer m) q e =
        let w = expanded-table t m q in
        let y = (stands t w.0 w.1).written in
        let z = ap write_network w.2 in
        no_answer (cc)

-- ── loaded, accepted and planned ──
module _ (t s : List ℕ) (e : table_network t ≡ answer s) where
  load_same : load_table t ≡ load_network s
  unfolding load_table load_network
  load_same =
      let w = stood t s e in
      then-answer (read_expanded t) _ w.meaning w.of_table
      ∙ sym (then-answer (read_network s) _ w.meaning w.of_network)

  pub accept-same : accept_table t ≡ accept_network s
  unfolding accept_table accept_network
  accept-same = ap accepting load_same

  pub plan-same : plan_table t ≡ plan_text s
  unfolding plan_table plan_text
  plan-same = ap plan_of accept-same

  pub given-same : (chain kept : List ℕ) → table_plan_given t chain kept ≡ plan_given s chain kept
  unfolding table_plan_given plan_given
  given-same chain kept = ap (λ (a : Answer Network). plan_in a chain kept) accept-same

module _ (t : List ℕ) (k : ℕ) (e : table_network t ≡ refused k) where
  pub accept-refused : accept_table t ≡ refused k
  unfolding accept_table load_table and_then
  accept-refused = rw (refused-of-table t k e)

  pub plan-refused : plan_table t ≡ refused k
  unfolding plan_table and_then
  plan-refused = rw accept-refused

  pub given-refused : (chain kept : List ℕ) → table_plan_given t chain kept ≡ refused k
  unfolding table_plan_given and_then Rattle.base.specs.Answer.given
  given-refused chain kept = rw accept-refused
