-- Network texts: what a text means, and the text of a meaning.
use Rattle.std.specs.Prelude.{◌≡◌, Bool, true, cond, ◌&&◌, List, [], ◌∷◌, ◌++◌, map, ℕ, zero, suc, ◌+◌, ◌*◌, ◌^◌, ◌≤◌, ◌<◌, length, drop, get_or, replicate, ℤ, pos}
use Rattle.std.specs.Int.Signed.{mag}
use Rattle.base.specs.Answer.{Answer, refused, answer, and_then, given, room_in, unless}
use Rattle.base.specs.Limits.{fewest_vertices, vertex_limit, cost_ok}
use Rattle.base.specs.Refusals.{FORM}
use Rattle.frame.specs.Table.{HEAD, EDGE, line_length}
use Rattle.frame.specs.Line.{is_line, fields_of, line_of, Fits}
use Rattle.frame.specs.Kinds.{head_of, of_head, cost_digits, edge_of, of_edge}
use Rattle.frame.specs.Frames.{Frames, done, broken, frame, frames_of, lines_of}
use Rattle.frame.specs.declared.kinds.Edge.{Edge}
use Rattle.network_frames.specs.Frames.{head_refusal, edge_refusal}
use Rattle.network_text.specs.declared.network.ReadNetwork.{ReadNetwork}

-- the meaning of a network text: how many vertices, the reserved edge, and each edge's ends and cost, by its number
pub record Meaning : Type 0 where
  pub vertices : ℕ
  pub reserved : ℕ
  pub low : List ℕ
  pub high : List ℕ
  pub cost : List ℤ

-- a meaning of given parts
abbrev pub meant : ℕ → ℕ → List ℕ → List ℕ → List ℤ → Meaning
meant n r low high cost = record { vertices = n; reserved = r; low = low; high = high; cost = cost }

-- what holds of every meaning that a text has
pub record Valid (m : Meaning) : Type 0 where
  pub many : fewest_vertices ≤ m.vertices
  pub few : m.vertices ≤ vertex_limit
  pub reserved_one : m.reserved < 2 * m.vertices
  pub low_count : length m.low ≡ 2 * m.vertices
  pub high_count : length m.high ≡ 2 * m.vertices
  pub cost_count : length m.cost ≡ 2 * m.vertices
  pub rising : (e : ℕ) → e < 2 * m.vertices → get_or m.low e 0 < get_or m.high e 0
  pub inside : (e : ℕ) → e < 2 * m.vertices → get_or m.high e 0 < m.vertices
  pub limited : (e : ℕ) → e < 2 * m.vertices → cost_ok (get_or m.cost e (pos 0)) ≡ true

-- edges one after the other, up to the last that is due or to what is
-- none: a broken line, a missing one, or something left over
pub data Edges : Type 0 where
  finished interrupted : Edges
  next : Edge → Edges → Edges

-- the edges from a place on, with the first refusal
unfoldable pub checked : ℕ → ℕ → Edges → Answer (List Edge)
checked n place finished = answer []
checked n place interrupted = refused FORM
checked n place (next e es) =
    unless (edge_refusal n place e) (and_then (checked n (suc place) es) (λ later. answer (e ∷ later)))

-- the meaning of a head and edges
unfoldable pub meaning_of : ℕ → ℕ → List Edge → Meaning
meaning_of n r es = meant n r (map (λ e. e.lower) es) (map (λ e. e.higher) es) (map (λ e. e.cost) es)

-- ── reading ──

-- the edges of frames
unfoldable pub in_frames : Frames → Edges
in_frames done = finished
in_frames broken = interrupted
in_frames (frame f fs) = next (edge_of f) (in_frames fs)

-- the k edges of a text that has nothing else
unfoldable pub edges_of : ℕ → List ℕ → Edges
edges_of k t = in_frames (frames_of (replicate k EDGE) t)

-- the meaning of a network text, or its first refusal
unfoldable pub read_network : List ℕ → Answer Meaning
read_network t =
    let h = head_of (fields_of HEAD t) in
    let n = h.vertices in
    let edges = edges_of (2 * n) (drop (line_length HEAD) t) in
    cond (is_line HEAD t)
    (unless (head_refusal n h.reserved) (and_then (checked n 0 edges) (λ es. answer (meaning_of n h.reserved es))))
    (refused FORM)

-- the reply: what the head says, or the refusal
unfoldable pub read_reply : Answer Meaning → Answer ReadNetwork
read_reply (refused k) = refused k
read_reply (answer m) = answer (record { vertices = m.vertices; reserved = m.reserved })

-- whether three columns have room for a meaning
unfoldable pub room_for : List ℕ → List ℕ → List ℤ → Meaning → Bool
room_for low high cost m = room_in low m.low && (room_in high m.high && room_in cost m.cost)

-- the reader's answer once its columns are known: refused where one of them has no room for the meaning
abbrev pub read_given : List ℕ → List ℕ → List ℕ → List ℤ → Answer Meaning
read_given t low high cost = given (room_for low high cost) (read_network t)

-- ── writing ──

-- the edges of columns, k of them from a place on: one that some
-- column lacks is missing, one beyond the last is left over
unfoldable pub in_columns : ℕ → ℕ → List ℕ → List ℕ → List ℤ → Edges
in_columns zero place [] [] [] = finished
in_columns zero place (l ∷ ls) hs cs = interrupted
in_columns zero place [] (h ∷ hs) cs = interrupted
in_columns zero place [] [] (c ∷ cs) = interrupted
in_columns (suc k) place (l ∷ ls) (h ∷ hs) (c ∷ cs) =
    next (record { number = place; lower = l; higher = h; cost = c }) (in_columns k (suc place) ls hs cs)
in_columns (suc k) place [] hs cs = interrupted
in_columns (suc k) place (l ∷ ls) [] cs = interrupted
in_columns (suc k) place (l ∷ ls) (h ∷ hs) [] = interrupted

-- the edges of columns from a place on, as far as all columns go
unfoldable pub edges_in : ℕ → List ℕ → List ℕ → List ℤ → List Edge
edges_in place (l ∷ ls) (h ∷ hs) (c ∷ cs) =
    record { number = place; lower = l; higher = h; cost = c } ∷ edges_in (suc place) ls hs cs
edges_in place [] hs cs = []
edges_in place (l ∷ ls) [] cs = []
edges_in place (l ∷ ls) (h ∷ hs) [] = []

-- the text of edges, and of a head and edges
unfoldable pub edges_text : List Edge → List ℕ
edges_text es = lines_of (replicate (length es) EDGE) (map of_edge es)

unfoldable pub network_text : ℕ → ℕ → List Edge → List ℕ
network_text n r es = line_of HEAD (of_head (record { vertices = n; reserved = r })) ++ edges_text es

-- how many bytes the text of a head and k edges has
unfoldable pub network_length : ℕ → ℕ
network_length k = line_length HEAD + k * line_length EDGE

-- the text of a meaning, or the refusal that its text would meet
unfoldable pub write_network : Meaning → Answer (List ℕ)
write_network m =
    unless (head_refusal m.vertices m.reserved)
    (and_then (checked m.vertices 0 (in_columns (2 * m.vertices) 0 m.low m.high m.cost))
    (λ es. answer (network_text m.vertices m.reserved es)))

-- a network text with another edge in the reserved field of its head; what stands behind the head stays
unfoldable pub reserving_text : ℕ → List ℕ → List ℕ
reserving_text r t =
    let n = (head_of (fields_of HEAD t)).vertices in
    line_of HEAD (of_head (record { vertices = n; reserved = r })) ++ drop (line_length HEAD) t

-- ── the text of a meaning as it stands, which the reader may refuse ──

unfoldable pub text_of : Meaning → List ℕ
text_of m = network_text m.vertices m.reserved (edges_in 0 m.low m.high m.cost)

-- an edge whose fields have room in their frame
abbrev pub EdgeSpellable : Edge → Type 0
EdgeSpellable e = Fits EDGE (of_edge e) × (2 * mag e.cost < 16 ^ cost_digits)

abbrev pub AllSpellable : List Edge → Type 0
AllSpellable [] = Unit
AllSpellable (e ∷ es) = EdgeSpellable e × AllSpellable es

-- a meaning that has such a text: columns of one length, and fields that have room in their frames
pub record Spellable (m : Meaning) : Type 0 where
  pub high_count : length m.high ≡ length m.low
  pub cost_count : length m.cost ≡ length m.low
  pub head : Fits HEAD (of_head (record { vertices = m.vertices; reserved = m.reserved }))
  pub edges : AllSpellable (edges_in 0 m.low m.high m.cost)
