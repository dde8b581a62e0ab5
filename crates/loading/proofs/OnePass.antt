-- What is owed of the pass over a network text.
use mathlib.Core.List.{List, []}
use mathlib.Core.Path.{◌≡◌, refl, sym, ◌∙◌}
use Rattle.std.proofs.Common.{Ok, Err}
use Prim.Native.Nat.{ℕ, zero, suc, ◌*◌, ◌≤◌, ◌<◌}
use native.Mathlib.Nat.{zero-add}
use native.Mathlib.Omega.{arith}
use lib.ListN.{length}
use Rattle.base.specs.Answer.{Answer, refused, answer, number_of, told, refusal_of, and_then, unless}
use Rattle.base.specs.declared.refusals.Refusal.{Refusal}
use Rattle.base.specs.Columns.{at}
use Rattle.base.specs.Fold.{fold, sum, bit}
use Rattle.base.specs.Limits.{edge_limit, vertex_limit}
use Rattle.base.proofs.Answers.{then-refused, unless-refused, unless-next, number-above}
use Rattle.frame.specs.declared.kinds.Head.{Head}
use Rattle.graph.specs.Network.{touches}
use Rattle.incidence.specs.Degrees.{degrees_of}
use Rattle.network_frames.specs.Frames.{read_head}
use Rattle.network_frames.proofs.Passed.{head_fine}
use Rattle.network_text.specs.Text.{meaning_of, read_network}
use Rattle.network_text.proofs.Head.{read-numbered, head-refused}
use Rattle.network_text.proofs.Meaning.{read-valid}
use Rattle.loading.specs.Loading.{network_of, load_network}
use Rattle.loading.specs.OnePass.{frame_of, Frames, OnePass}
use Rattle.loading.specs.Known.{Known}
use Rattle.loading.specs.Pass.{Run, run_of, pass_over, pass_behind, pass_of, passed}
use Rattle.loading.specs.declared.pass.Pass.{Pass as Handed}
use Rattle.loading.proofs.Counting.{counted-most, low_read, high_read, cost-read, counted-at, all-counted}
use Rattle.loading.proofs.Reading.{loaded-known}
use Rattle.loading.proofs.Runs.{nth, run-decides, ran}

-- an answer unless there is a refusal, made into another
then-unless : {M N : Type 0} (k : ℕ) (m : M) (f : M → N)
    → and_then (unless k (answer m)) (λ x. answer (f x)) ≡ unless k (answer (f m))
unfolding and_then unless
then-unless zero m f = refl
then-unless (suc k) m f = refl

module _ (t : List ℕ) where
  -- a head that is refused has a number
  numbered : {k : ℕ} → refused k ≡ read_head t → 0 < k
  numbered {k} x = ((read-numbered t).number k (head-refused t x)).0

  as_read : load_network t ≡ unless (pass_of t).refusal (answer (pass_of t).network)
  unfolding load_network pass_of pass_behind pass_over
  as_read = by-head (read_head t) refl
    where
      by-head : (a : Answer (Head × ℕ)) → a ≡ read_head t
          → and_then (read_network t) (λ m. answer (network_of m))
          ≡ unless (pass_behind t a).refusal (answer (pass_behind t a).network)
      by-head (refused k) x =
          then-refused (read_network t) _ k (head-refused t x) ∙ sym (unless-refused k _ (numbered x))
      by-head (answer found) x =
          let h = found.0 in
          let run = run_of t h.vertices (2 * h.vertices) 0 found.1 in
          rw (run-decides t x)
          (then-unless run.refusal (meaning_of h.vertices h.reserved run.edges) network_of)

  degrees : (pass_of t).refusal ≡ 0 → (pass_of t).tally ≡ degrees_of (pass_of t).network
  unfolding pass_of pass_behind pass_over
  degrees = by-head (read_head t) refl
    where
      by-head : (a : Answer (Head × ℕ)) → a ≡ read_head t → (pass_behind t a).refusal ≡ 0
          → (pass_behind t a).tally ≡ degrees_of (pass_behind t a).network
      by-head (refused k) x z = absurd (omega (arith, numbered x))
      by-head (answer found) x z =
          all-counted found.0.vertices found.0.reserved _
          (read-valid t _ (run-decides t x ∙ unless-next _ _ (omega (arith, z))))

  counted : (v : ℕ) → v < vertex_limit
      → at (pass_of t).tally v ≡ sum (pass_of t).read (λ e. bit (touches (pass_of t).network v e))
  unfolding pass_of pass_behind pass_over fold
  counted v l = by-head (read_head t)
    where
      by-head : (a : Answer (Head × ℕ))
          → at (pass_behind t a).tally v
          ≡ sum (pass_behind t a).read (λ e. bit (touches (pass_behind t a).network v e))
      by-head (refused k) = counted-at 0 0 [] v l
      by-head (answer found) = counted-at found.0.vertices found.0.reserved _ v l

  module _ (h : Head) (first : ℕ) (x : read_head t ≡ answer (h, first)) where
    abbrev run : Run
    run = run_of t h.vertices (2 * h.vertices) 0 first

    pass-is : pass_of t ≡ pass_over h run
    unfolding pass_of pass_behind
    pass-is = rw x

    -- an edge of the network is the frame that was read
    frame_is : (i : ℕ) → i < length run.edges
        → nth run.edges i i ≡ frame_of (network_of (meaning_of h.vertices h.reserved run.edges)) i
    frame_is i l =
        let n = h.vertices in
        let r = h.reserved in
        rw (low_read n r run.edges i l, high_read n r run.edges i l, cost-read n r run.edges i l)

    frames : Frames t h first
    unfolding pass_over
    frames =
        let w = ran t h.vertices (2 * h.vertices) 0 first in
        record {
          few = rw pass-is w.few;
          read = λ i l. rw pass-is
              (rw (← frame_is i (rw pass-is at l)) (rw zero-add at (w.read i (rw pass-is at l))));
          refuses = λ l. rw pass-is (rw zero-add at (w.refuses (rw pass-is at l)));
          place = rw pass-is w.place;
        }

  no_head : (k : ℕ) → read_head t ≡ refused k → ((pass_of t).place ≡ 0) × ((pass_of t).read ≡ 0)
  unfolding pass_of pass_behind
  no_head k x = rw x (refl, refl)

  at_most : (v : ℕ) → at (pass_of t).tally v ≤ edge_limit
  unfolding pass_of pass_behind pass_over
  at_most v = by-head (read_head t) refl
    where
      by-head : (a : Answer (Head × ℕ)) → a ≡ read_head t → at (pass_behind t a).tally v ≤ edge_limit
      by-head (refused k) x = omega (arith, counted-most [] v)
      by-head (answer found) x =
          let h = found.0 in
          let w = ran t h.vertices (2 * h.vertices) 0 found.1 in
          omega (
            arith,
            counted-most (run_of t h.vertices (2 * h.vertices) 0 found.1).edges v,
            w.few,
            (head_fine t x).few,
          )

-- ── what is loaded, by what the pass has handed back ──
module _ (t : List ℕ) (p : Handed) (e : passed p ≡ pass_of t) where
  by-pass : load_network t ≡ unless (refusal_of (told p.ended)) (answer p.network)
  by-pass = as_read t ∙ rw (← e)

  pub pass-refused : {r : Refusal} → p.ended ≡ Err r → refused (number_of r) ≡ load_network t
  unfolding refusal_of
  pass-refused {r} x = sym (by-pass ∙ rw x (unless-refused (number_of r) _ (number-above r)))

  module _ (x : p.ended ≡ Ok tt) where
    none : refusal_of (told p.ended) ≡ 0
    unfolding refusal_of
    none = rw x

    pub pass-loaded : answer p.network ≡ load_network t
    pass-loaded = sym (by-pass ∙ rw none (unless-next 0 _ (omega arith)))

    pub pass-known : Known p.network
    pass-known = loaded-known t p.network (sym pass-loaded)

    pub pass-counted : p.tally ≡ degrees_of p.network
    pass-counted = let d = degrees t in let z = none in rw (← e) at d z

pub one-pass : OnePass
one-pass =
    record {
      frames = frames;
      no_head = no_head;
      counted = counted;
      at_most = at_most;
      degrees = degrees;
      as_read = as_read;
    }
