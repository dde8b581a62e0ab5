-- What the audit service answers for a network's text and a list's.
use Rattle.std.specs.Prelude.{List, ℕ}
use Rattle.base.specs.Answer.{Answer, answer, and_then}
use Rattle.loading.specs.ListLoading.{load_list}
use Rattle.audit.specs.Answers.{audited}
use Rattle.audit.specs.declared.Answers.{Answers}

-- the answers for a list's text over a network's, or the first refusal
unfoldable pub audit_text : List ℕ → List ℕ → Answer Answers
audit_text t l = and_then (load_list t l) (λ (g, K). answer (audited g K))
