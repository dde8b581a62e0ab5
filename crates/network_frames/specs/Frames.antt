-- The frames of a network text, one by one: what is refused of a head and of an edge, and what reading one answers.
use Rattle.std.specs.Prelude.{cond, ◌&&◌, List, ℕ, ◌*◌, ltb, eqb}
use Rattle.base.specs.Answer.{Answer, answer, and_then, unless}
use Rattle.base.specs.Limits.{vertices_ok, cost_ok}
use Rattle.base.specs.Refusals.{VERTICES, RESERVED, ENDS, COST}
use Rattle.frame.specs.Table.{HEAD, EDGE}
use Rattle.frame.specs.Line.{read_line}
use Rattle.frame.specs.Kinds.{head_of, edge_of}
use Rattle.frame.specs.declared.line.Fields.{Fields}
use Rattle.frame.specs.declared.kinds.Head.{Head}
use Rattle.frame.specs.declared.kinds.Edge.{Edge}

-- refusals 2 and 3 of a head
unfoldable pub head_refusal : ℕ → ℕ → ℕ
head_refusal n r = cond (vertices_ok n) (cond (ltb r (2 * n)) 0 RESERVED) VERTICES

-- refusals 4 and 5 of the edge at a place
unfoldable pub edge_refusal : ℕ → ℕ → Edge → ℕ
edge_refusal n place e =
    cond (eqb e.number place && (ltb e.lower e.higher && ltb e.higher n))
    (cond (cost_ok e.cost) 0 COST)
    ENDS

-- the head of a line, with the place behind the line, or refusal 2 or 3
unfoldable pub head_in : Fields × ℕ → Answer (Head × ℕ)
head_in (f, next) = let h = head_of f in unless (head_refusal h.vertices h.reserved) (answer (h, next))

-- the head that a text starts with, and the place behind it, or its refusal: 1, 2, 3
unfoldable pub read_head : List ℕ → Answer (Head × ℕ)
read_head text = and_then (read_line HEAD text 0) head_in

-- the edge of a line that is due as the i-th of a network with n
-- vertices, with the place behind the line, or refusal 4 or 5
unfoldable pub edge_in : ℕ → ℕ → Fields × ℕ → Answer (Edge × ℕ)
edge_in n i (f, next) = let e = edge_of f in unless (edge_refusal n i e) (answer (e, next))

-- the edge at a place of a text, and the place behind it, or its refusal: 1, 4, 5
unfoldable pub read_edge : List ℕ → ℕ → ℕ → ℕ → Answer (Edge × ℕ)
read_edge text at n i = and_then (read_line EDGE text at) (edge_in n i)
