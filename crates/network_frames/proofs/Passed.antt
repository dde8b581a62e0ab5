-- Heads and edges that are not refused: what they then say. And the numbers of those that are.
-- Assumes nothing.
use mathlib.Core.Path.{◌≡◌, refl}
use mathlib.Core.Bool.{Bool, true, false, cond, ◌&&◌}
use mathlib.Core.List.{List}
use Prim.Native.Nat.{ℕ, zero, suc, ◌+◌, ◌*◌, ◌≤◌, ◌<◌}
use native.Mathlib.Omega.{arith}
use lib.Dec.{ltb, eqb}
use borrow.Author.Tests.{ltb-true, eqb-true}
use Rattle.base.specs.Answer.{Answer, refused, answer, and_then, unless}
use Rattle.base.specs.Limits.{fewest_vertices, vertex_limit, vertices_ok, cost_ok}
use Rattle.base.specs.Refusals.{VERTICES, RESERVED, ENDS, COST}
use Rattle.base.proofs.Bools.{no_answer}
use Rattle.base.proofs.LimitLaws.{vertices-within}
use Rattle.frame.specs.Table.{HEAD, EDGE, line_length}
use Rattle.frame.specs.Line.{read_line}
use Rattle.frame.specs.Kinds.{head_of, edge_of}
use Rattle.frame.specs.declared.line.Fields.{Fields}
use Rattle.frame.specs.declared.kinds.Head.{Head}
use Rattle.frame.specs.declared.kinds.Edge.{Edge}
use Rattle.frame.proofs.Runs.{next-read}
use Rattle.network_frames.specs.Frames.{head_refusal, edge_refusal, head_in, read_head, edge_in, read_edge}

-- what a head and an edge say that are not refused
pub record HeadPassed (n r : ℕ) : Type 0 where
  pub many : fewest_vertices ≤ n
  pub few : n ≤ vertex_limit
  pub inside : r < 2 * n

pub record EdgePassed (n place : ℕ) (e : Edge) : Type 0 where
  pub numbered : e.number ≡ place
  pub rising : e.lower < e.higher
  pub inside : e.higher < n
  pub limited : cost_ok e.cost ≡ true

pub head_passed : (n r : ℕ) → head_refusal n r ≤ 0 → HeadPassed n r
unfolding head_refusal
head_passed n r h = go (vertices_ok n) refl (ltb r (2 * n)) refl h
  where
    go : (a : Bool) → vertices_ok n ≡ a → (b : Bool) → ltb r (2 * n) ≡ b
        → cond a (cond b 0 RESERVED) VERTICES ≤ 0 → HeadPassed n r
    go true v true l h =
        record { many = (vertices-within n v).0; few = (vertices-within n v).1; inside = ltb-true r (2 * n) l }
    go true v false l h = absurd (omega arith)
    go false v b l h = absurd (omega arith)

pub edge-passed : (n place : ℕ) (e : Edge) → edge_refusal n place e ≤ 0 → EdgePassed n place e
unfolding edge_refusal
edge-passed n place e h =
    go (eqb e.number place) refl (ltb e.lower e.higher) refl (ltb e.higher n) refl (cost_ok e.cost) refl h
  where
    go : (a : Bool) → eqb e.number place ≡ a → (b : Bool) → ltb e.lower e.higher ≡ b
        → (c : Bool) → ltb e.higher n ≡ c → (d : Bool) → cost_ok e.cost ≡ d
        → cond (a && (b && c)) (cond d 0 COST) ENDS ≤ 0 → EdgePassed n place e
    go true p true q true s true t h =
        record { numbered = eqb-true _ _ p; rising = ltb-true _ _ q; inside = ltb-true _ _ s; limited = t }
    go true p true q true s false t h = absurd (omega arith)
    go true p true q false s d t h = absurd (omega arith)
    go true p false q c s d t h = absurd (omega arith)
    go false p b q c s d t h = absurd (omega arith)

-- a head that is read has passed
module _ (t : List ℕ) {p : Head × ℕ} (x : answer p ≡ read_head t) where
  pub head_fine : HeadPassed p.0.vertices p.0.reserved
  unfolding read_head head_in and_then unless
  head_fine = go (read_line HEAD t 0) x
    where
      -- by the head's own refusal
      own : (f : Head) (place k : ℕ) → head_refusal f.vertices f.reserved ≡ k
          → answer p ≡ unless k (answer (f, place)) → HeadPassed p.0.vertices p.0.reserved
      own f place zero e y = let q : p ≡ (f, place) = cc in rw q (head_passed f.vertices f.reserved (omega arith))
      own f place (suc k) e y = no_answer (cc)

      go : (a : Answer (Fields × ℕ)) → answer p ≡ and_then a head_in → HeadPassed p.0.vertices p.0.reserved
      go (refused k) y = no_answer (cc)
      go (answer l) y = own (head_of l.0) l.1 _ refl y

-- an edge that is read has passed, and the next line starts directly behind its own
pub record EdgeFine (n at i : ℕ) (e : Edge) (next : ℕ) : Type 0 where
  pub passed : EdgePassed n i e
  pub place : next ≡ at + line_length EDGE

module _ (t : List ℕ) (n at i : ℕ) {p : Edge × ℕ} (x : answer p ≡ read_edge t at n i) where
  pub edge-fine : EdgeFine n at i p.0 p.1
  unfolding read_edge edge_in and_then unless
  edge-fine = go (read_line EDGE t at) refl x
    where
      -- by the edge's own refusal
      own : (l : Fields × ℕ) → answer l ≡ read_line EDGE t at
          → (k : ℕ) → edge_refusal n i (edge_of l.0) ≡ k
          → answer p ≡ unless k (answer (edge_of l.0, l.1)) → EdgeFine n at i p.0 p.1
      own l q zero r y =
          let u : p ≡ (edge_of l.0, l.1) = cc in
          rw u
          (record { passed = edge-passed n i (edge_of l.0) (omega arith); place = (next-read EDGE at t l.0 l.1 q).place })
      own l q (suc k) r y = no_answer (cc)

      go : (a : Answer (Fields × ℕ)) → a ≡ read_line EDGE t at → answer p ≡ and_then a (edge_in n i)
          → EdgeFine n at i p.0 p.1
      go (refused k) q y = no_answer (cc)
      go (answer l) q y = own l q _ refl y

-- the refusals of a network text are those up to an edge's cost
pub head_small : (n r : ℕ) → head_refusal n r ≤ COST
unfolding head_refusal
head_small n r = go (vertices_ok n) (ltb r (2 * n))
  where
    go : (a b : Bool) → cond a (cond b 0 RESERVED) VERTICES ≤ COST
    go true true = omega arith
    go true false = omega arith
    go false b = omega arith

pub edge-small : (n place : ℕ) (e : Edge) → edge_refusal n place e ≤ COST
unfolding edge_refusal
edge-small n place e =
    go (eqb e.number place && (ltb e.lower e.higher && ltb e.higher n)) (cost_ok e.cost)
  where
    go : (a b : Bool) → cond a (cond b 0 COST) ENDS ≤ COST
    go true true = omega arith
    go true false = omega arith
    go false b = omega arith
