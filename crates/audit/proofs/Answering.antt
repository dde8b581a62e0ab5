-- Laws of the audit's three answers.
use mathlib.Core.Path.{◌≡◌}
use mathlib.Core.Bool.{Bool}
use mathlib.Core.List.{List}
use Prim.Native.Nat.{ℕ}
use Rattle.base.specs.Answer.{refused, answer, and_then}
use Rattle.loading.specs.ListLoading.{load_list}
use Rattle.graph.specs.declared.Network.{Network}
use Rattle.connection.specs.Connection.{connected, reached_count}
use Rattle.bridges.specs.Bridge.{bridge_count}
use Rattle.audit.specs.Answers.{audited}
use Rattle.audit.specs.Service.{audit_text}
use Rattle.audit.specs.declared.Answers.{Answers}

pub audited-by : (g : Network) (K : List Bool) {b : Bool} {r k : ℕ} → b ≡ connected g K → r ≡ reached_count g K 0
    → k ≡ bridge_count g K → record { connected = b; reached = r; bridges = k } ≡ audited g K
unfolding audited
audited-by g K eb er ek = rw (eb, er, ek)

-- ── the service ──

module _ (t l : List ℕ) where
  pub text-refused : {k : ℕ} → load_list t l ≡ refused k → refused k ≡ audit_text t l
  unfolding audit_text and_then
  text-refused e = rw e

  pub text-answered : (g : Network) (K : List Bool) (a : Answers) → load_list t l ≡ answer (g, K) → a ≡ audited g K
      → answer a ≡ audit_text t l
  unfolding audit_text and_then
  text-answered g K a e q = rw (e, q)
