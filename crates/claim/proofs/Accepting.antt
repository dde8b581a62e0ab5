-- The network check by its steps, and what is known of an accepted network.
use mathlib.Core.Path.{◌≡◌, refl, ◌∙◌, ap}
use mathlib.Core.Bool.{Bool, true, false}
use mathlib.Core.List.{List}
use Rattle.std.proofs.Common.{Result}
use Prim.Native.Nat.{ℕ, ◌-◌, ◌≤◌}
use native.Mathlib.Omega.{arith}
use lib.ListN.{length}
use Rattle.base.proofs.Answers.{then-refused, unless-answered}
use Rattle.base.proofs.Bools.{no_answer, bit-low}
use Rattle.base.proofs.Sums.{sum_bound}
use Rattle.base.specs.Answer.{Answer, refused, answer, and_then, unless}
use Rattle.base.specs.Fold.{bit}
use Rattle.network_text.specs.Text.{Meaning, read_network}
use Rattle.base.specs.Refusals.{DEGREE, CUT}
use Rattle.base.proofs.Numbered.{Numbered, answered, unless-numbered, then-meeting, numbered-up}
use Rattle.loading.specs.Known.{Known}
use Rattle.loading.specs.Loading.{network_of, load_network, loaded_by, loaded_answer}
use Rattle.base.specs.declared.refusals.Refusal.{Refusal}
use Rattle.loading.specs.declared.loaded.Loaded.{Loaded}
use Rattle.loading.proofs.Reading.{known-light, loaded-read, load-numbered, loaded-known, answer-ready}
use Rattle.graph.specs.Cut.{every_cut, four_each, network_refusal}
use Rattle.graph.specs.Network.{here}
use Rattle.base.specs.Limits.{vertex_limit}
use Rattle.graph.specs.declared.Network.{Network}
use Rattle.graph.proofs.Backs.{passes-good}
use Rattle.graph.proofs.Condition.{accepted-sound, fresh-remaining}
use Rattle.graph.proofs.Numbers.{network-number}
use Rattle.rules.specs.Running.{Running, Keeping}
use Rattle.claim.specs.Verdicts.{check_chain}
use Rattle.claim.specs.Services.{accepting, accept_network, acceptance_of, kept_in, check_chain_text}
use Rattle.claim.proofs.ChainTexts.{bytes-meant}

-- ── refusals 6 and 7 ──
module _ (g : Network) where
  pub degree-refused : four_each g ≡ false → DEGREE ≡ network_refusal g
  unfolding network_refusal
  degree-refused h = rw h

  pub cut-refused : four_each g ≡ true → every_cut 4 g ≡ false → CUT ≡ network_refusal g
  unfolding network_refusal
  cut-refused h k = rw (h, k)

  pub not-refused : four_each g ≡ true → every_cut 4 g ≡ true → 0 ≡ network_refusal g
  unfolding network_refusal
  not-refused h k = rw (h, k)

-- ── the check of a network that was loaded, from whatever text ──
module _ (a : Answer Network) where
  pub accepting-refused : (k : ℕ) → a ≡ refused k → accepting a ≡ refused k
  accepting-refused k e = then-refused a _ k e

  -- its refusals are those met before, and 6 and 7
  pub accepting-numbered : {top : ℕ} → CUT ≤ top → Numbered top a → Numbered top (accepting a)
  accepting-numbered h n =
      then-meeting a _ n
      (λ g. unless-numbered (network_refusal g) _ (omega (arith, network-number g)) (answered g))

  -- what is accepted was loaded, and is not refused
  pub accepting-answered : (g : Network) → accepting a ≡ answer g → (a ≡ answer g) × (network_refusal g ≡ 0)
  accepting-answered g e = go a refl e
    where
      go : (b : Answer Network) → a ≡ b → accepting b ≡ answer g → (a ≡ answer g) × (network_refusal g ≡ 0)
      go (refused k) q e = unfold and_then in no_answer (cc)
      go (answer h) q e = unfold and_then in
          let w = unless-answered (network_refusal h) (answer h) g e in
          let x : h ≡ g = cc in
          rw (← x) (q, w.0)

-- a known network that is not refused runs
pub known-running : {g : Network} → Known g → network_refusal g ≡ 0 → Running g
known-running k p =
    record {
      sound = accepted-sound k.fresh p;
      light = known-light k;
      left = omega (arith, fresh-remaining k.fresh, k.several);
      edge_room = k.edge_room;
      vertex_room = k.vertex_room;
      long = k.long;
    }

-- so an accepted one does, where what was loaded is known
pub accepting-running : (a : Answer Network) → ((g : Network) → a ≡ answer g → Known g)
    → (g : Network) → accepting a ≡ answer g → Running g
accepting-running a known g e = let w = accepting-answered a g e in known-running (known g w.0) w.1

-- and so one that was loaded does
pub loaded-running : {E : Type 0} (number : E → ℕ) (l : Result Loaded E) (g : Network)
    → accepting (loaded_by number l) ≡ answer g → Running g
loaded-running number l g e = accepting-running (loaded_by number l) (λ g e. (answer-ready number l g e).3) g e

-- the vertices of a running network are no more than there is room for
pub running-few : {g : Network} → Running g → g.remaining ≤ vertex_limit
running-few {g} run =
    let counted = run.sound.formed.counted in
    let few = sum_bound g.vertices 1 (λ v. bit (here g v)) (λ v l. bit-low (here g v)) in
    omega (arith, run.vertex_room)

pub answered-refused : (a : Answer Network) (k : ℕ) → a ≡ refused k → refused k ≡ acceptance_of a
unfolding acceptance_of
answered-refused a k e = rw e

pub answered-accepted : (a : Answer Network) (g : Network) → a ≡ answer g → answer tt ≡ acceptance_of a
unfolding acceptance_of
answered-accepted a g e = rw e

-- ── the check of a text ──

-- what a text loads is accepted as the text is
pub accept-loaded : (t : List ℕ) (l : Result Loaded Refusal) → loaded_answer l ≡ load_network t
    → accepting (loaded_answer l) ≡ accept_network t
unfolding accept_network
accept-loaded t l e = ap accepting e

-- its refusals are 1 to 7
pub accept-numbered : (t : List ℕ) → Numbered CUT (accept_network t)
unfolding accept_network
accept-numbered t = accepting-numbered (load_network t) (omega arith) (numbered-up (omega arith) (load-numbered t))

-- ── an accepted text ──
pub record Whole (t : List ℕ) (g : Network) : Type 0 where
  pub meaning : Meaning
  pub read : read_network t ≡ answer meaning
  pub state_is : network_of meaning ≡ g
  pub known : Known g
  pub passed : network_refusal g ≡ 0

pub accepted-whole : (t : List ℕ) (g : Network) → accept_network t ≡ answer g → Whole t g
unfolding accept_network
accepted-whole t g e =
    let w = accepting-answered (load_network t) g e in
    let r = loaded-read t g w.0 in
    record { meaning = r.0; read = r.1; state_is = r.2; known = loaded-known t g w.0; passed = w.1 }

pub accepted-running : (t : List ℕ) (g : Network) → accept_network t ≡ answer g → Running g
unfolding accept_network
accepted-running t g e = accepting-running (load_network t) (loaded-known t) g e

-- a network that reads and is not refused is accepted
pub whole-accepted : (t : List ℕ) (m : Meaning) → read_network t ≡ answer m → network_refusal (network_of m) ≡ 0
    → accept_network t ≡ answer (network_of m)
unfolding accept_network load_network and_then unless
whole-accepted t m q p = rw (q, p)

-- ── what is kept ──

-- marks of a running network that are as long as its columns
pub running-keeping : {g : Network} → Running g → (K : List Bool) → length K ≡ length g.low → Keeping g K
running-keeping run K e = record {
  light = run.light;
  edge_room = run.edge_room;
  reserved_room = omega (arith, run.sound.formed.reserved_below, run.edge_room);
  long = e ∙ run.long;
}

-- what a passing chain keeps can be written
pub passing-keeping : {g : Network} → Running g → (t : List ℕ) (K : List Bool)
    → check_chain (g.remaining - 2) g t ≡ answer K → Keeping g K
passing-keeping {g} run t K e =
    let m = bytes-meant (g.remaining - 2) g t K (omega (arith, run.left)) e in
    running-keeping run K (passes-good _ run.sound _ K m.passes).sized

-- ── the check of a chain by its steps ──
module _ (network chain : List ℕ) where
  pub chain-network-refused : (k : ℕ) → accept_network network ≡ refused k → check_chain_text network chain ≡ refused k
  unfolding check_chain_text and_then
  chain-network-refused k e = rw e

  module _ (g : Network) (e : accept_network network ≡ answer g) where
    pub chain-refused : (k : ℕ) → check_chain (g.remaining - 2) g chain ≡ refused k
        → check_chain_text network chain ≡ refused k
    unfolding check_chain_text and_then kept_in
    chain-refused k h = rw (e, h)

    pub chain-kept : (K : List Bool) → check_chain (g.remaining - 2) g chain ≡ answer K
        → check_chain_text network chain ≡ kept_in g (answer K)
    unfolding check_chain_text and_then
    chain-kept K h = rw (e, h)
