-- The run of a text's edges decides what the reader answers.
use mathlib.Core.Bool.{Bool, true, false, cond}
use mathlib.Core.List.{List, [], ◌∷◌, ◌++◌, map, append-nil}
use mathlib.Core.Path.{◌≡◌, refl, sym, ◌∙◌, ap}
use Prim.Native.Nat.{ℕ, zero, suc, ◌+◌, ◌*◌, ◌≤◌, ◌<◌}
use native.Mathlib.Nat.{zero-mul, one-mul, suc-mul}
use native.Mathlib.Numerals.{add-one}
use native.Mathlib.Omega.{arith}
use borrow.Author.Tests.{ltb-true, ltb-false}
use lib.Dec.{ltb}
use lib.ListN.{length, get_or}
use lib.IntN.{pos}
use lib.Seq.{append_snoc}
use Rattle.base.specs.Answer.{Answer, refused, answer, unless}
use Rattle.base.specs.Refusals.{FORM}
use Rattle.base.proofs.Answers.{unless-refused}
use Rattle.frame.specs.Table.{EDGE, line_length}
use Rattle.frame.specs.declared.kinds.Head.{Head}
use Rattle.frame.specs.declared.kinds.Edge.{Edge}
use Rattle.network_frames.specs.Frames.{read_head, read_edge}
use Rattle.network_frames.proofs.Passed.{EdgeFine, edge-fine}
use Rattle.network_text.specs.Text.{meaning_of, read_network, edges_of}
use Rattle.network_text.proofs.Edges.{Passing, passing-none, passing-end, passing-stop, passing-refused, passing-next}
use Rattle.network_text.proofs.Head.{checked-numbered, edges-due}
use Rattle.network_text.proofs.Reading.{left, edge-refused, edge-found, left_over, none_left}
use Rattle.loading.specs.Pass.{Run, onward, run_of}

module _ (text : List ℕ) (n r : ℕ) where
  -- what the reader answers, by the edges before a run and the run
  abbrev Decides : List Edge → Run → Type 0
  Decides passed run = read_network text ≡ unless run.refusal (answer (meaning_of n r (passed ++ run.edges)))

  decides : (k i at : ℕ) (passed : List Edge) → i + k ≡ 2 * n
      → Passing (read_network text) (meaning_of n r) n passed i (left n text at i)
      → Decides passed (run_of text n k i at)
  unfolding run_of onward unless
  decides zero i at passed e p = ended (ltb at (length text)) refl
    where
      ended : (b : Bool) → ltb at (length text) ≡ b
          → Decides passed (record { edges = []; refusal = cond b FORM 0; place = at })
      ended true x = passing-stop p (left_over n text at i (omega arith) (ltb-true at (length text) x))
      ended false x =
          passing-end p (none_left n text at i (omega arith) (ltb-false at (length text) x)) ∙ rw append-nil
  decides (suc k) i at passed e p =
      by-frame (read_edge text at n i) refl
      (λ a next q. decides k (suc i) next (passed ++ (a ∷ [])) (omega arith) (rw add-one at q))
    where
      by-frame : (a : Answer (Edge × ℕ)) → a ≡ read_edge text at n i
          → ((b : Edge) (next : ℕ)
          → Passing (read_network text) (meaning_of n r) n (passed ++ (b ∷ [])) (i + 1) (left n text next (i + 1))
          → Decides (passed ++ (b ∷ [])) (run_of text n k (suc i) next))
          → Decides passed (onward at a (λ next. run_of text n k (suc i) next))
      by-frame (refused j) x later =
          let y = edge-refused n text at i (omega arith) x in
          let positive = ((checked-numbered n i (left n text at i)).number j y).0 in
          passing-refused p y ∙ sym (unless-refused j _ positive)
      by-frame (answer found) x later =
          later found.0 found.1 (passing-next p (edge-found n text at i (omega arith) x))
          ∙ rw (append_snoc passed found.0 (run_of text n k (suc i) found.1).edges)

-- the run of all edges behind a head that is read
pub run-decides : (text : List ℕ) {p : Head × ℕ} → answer p ≡ read_head text →
    let n = p.0.vertices in
    let run = run_of text n (2 * n) 0 p.1 in
    read_network text ≡ unless run.refusal (answer (meaning_of n p.0.reserved run.edges))
unfolding edges_of
run-decides text {p} x =
    let h = p.0 in
    decides text h.vertices h.reserved (2 * h.vertices) 0 p.1 [] (omega arith)
    (passing-none (edges-due text x))

-- the j-th of some edges, with a number
abbrev pub nth : List Edge → ℕ → ℕ → Edge
nth es number j =
    record {
      number = number;
      lower = get_or (map (λ e. e.lower) es) j 0;
      higher = get_or (map (λ e. e.higher) es) j 0;
      cost = get_or (map (λ e. e.cost) es) j (pos 0);
    }

-- what a run of k edges from the i-th and from a place on has of the text's frames
pub record Ran (text : List ℕ) (n k i at : ℕ) (run : Run) : Type 0 where
  pub few : length run.edges ≤ k
  pub read : (j : ℕ) → j < length run.edges
      → read_edge text (at + j * line_length EDGE) n (i + j)
      ≡ answer (nth run.edges (i + j) j, at + suc j * line_length EDGE)
  pub refuses : length run.edges < k
      → read_edge text run.place n (i + length run.edges) ≡ refused run.refusal
  pub place : run.place ≡ at + length run.edges * line_length EDGE

module _ (text : List ℕ) (n : ℕ) where
  -- one edge more before a run
  ran-next : (k i at : ℕ) {p : Edge × ℕ} {later : Run} → answer p ≡ read_edge text at n i
      → Ran text n k (suc i) p.1 later
      → Ran text n (suc k) i at (record { edges = p.0 ∷ later.edges; refusal = later.refusal; place = later.place })
  ran-next k i at {p} {later} x w =
      record {
        few = omega (arith, w.few);
        read = read;
        refuses = λ l. let s : i + suc (length later.edges) ≡ suc i + length later.edges = omega arith in
            rw s (w.refuses (omega arith));
        place = w.place ∙ omega (arith, f.place, suc-mul (length later.edges) (line_length EDGE));
      }
    where
      e : Edge
      e = p.0

      next : ℕ
      next = p.1

      f : EdgeFine n at i e next
      f = edge-fine text n at i x

      as-numbered : e ≡ nth (e ∷ later.edges) i 0
      as-numbered =
          ap (λ k. record { number = k; lower = e.lower; higher = e.higher; cost = e.cost }) f.passed.numbered

      read : (j : ℕ) → j < suc (length later.edges)
          → read_edge text (at + j * line_length EDGE) n (i + j)
          ≡ answer (nth (e ∷ later.edges) (i + j) j, at + suc j * line_length EDGE)
      read zero l =
          let p : at + 0 * line_length EDGE ≡ at = omega (arith, zero-mul (line_length EDGE)) in
          let q : i + 0 ≡ i = omega arith in
          let s : at + 1 * line_length EDGE ≡ next = omega (arith, f.place, one-mul (line_length EDGE)) in
          rw (p, q, s) (sym x ∙ ap (λ (a : Edge). answer (a, next)) as-numbered)
      read (suc j) l =
          let p : at + suc j * line_length EDGE ≡ next + j * line_length EDGE =
          omega (arith, f.place, suc-mul j (line_length EDGE)) in
          let q : i + suc j ≡ suc i + j = omega arith in
          let s : at + suc (suc j) * line_length EDGE ≡ next + suc j * line_length EDGE =
          omega (arith, f.place, suc-mul (suc j) (line_length EDGE)) in
          rw (p, q, s) (w.read j (omega arith))

  pub ran : (k i at : ℕ) → Ran text n k i at (run_of text n k i at)
  unfolding run_of onward
  ran zero i at =
      record {
        few = omega arith;
        read = λ j l. absurd (omega arith);
        refuses = λ l. absurd (omega arith);
        place = omega arith;
      }
  ran (suc k) i at = by-frame (read_edge text at n i) refl (λ next. ran k (suc i) next)
    where
      by-frame : (a : Answer (Edge × ℕ)) → a ≡ read_edge text at n i
          → ((next : ℕ) → Ran text n k (suc i) next (run_of text n k (suc i) next))
          → Ran text n (suc k) i at (onward at a (λ next. run_of text n k (suc i) next))
      by-frame (refused m) x later =
          record {
            few = omega arith;
            read = λ j l. absurd (omega arith);
            refuses = λ l. let e : i + 0 ≡ i = omega arith in rw e (sym x);
            place = omega arith;
          }
      by-frame (answer found) x later = ran-next k i at x (later found.1)
