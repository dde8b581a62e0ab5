-- `kept_text::write_kept` meets its contract.
use mathlib.Core.Path.{◌≡◌, refl, sym, ◌∙◌, ap}
use native.Mathlib.Omega.{arith}
use mir.Facts.{to_z-of_z}
use lib.ListN.{length}
use borrow.Author.Rules.{rules}
use Rattle.base.specs.Answer.{answer}
use Rattle.base.proofs.Answers.{short, fits}
use Rattle.base.specs.Limits.{edge_limit}
use Rattle.kept_text.specs.Text.{kept_edges}
use Rattle.kept_text.proofs.Texts.{marks-looked, length-kept, kept-fits}
use Rattle.kept_text.proofs.write_kept.Goals as goal

pub returns-then-text-length : goal.returns-then-text-length
returns-then-text-length c =
    let a = c.args in
    let marks : length a.kept ≡ edge_limit = search rules in
    let measured = length-kept (kept_edges c.min-marked.result a.kept) a.cost a.unreserved in
    rw (marks-looked a.kept a.edges c.min-marked.result (rw marks c.min-marked.ensures))
    (short (answer _) a.text.now _ refl (omega (arith, measured, c.kept_length-length.ensures, c.if-text-length.true)))

pub put_text-requires : goal.put_text-requires
put_text-requires c =
    let marks : length c.args.kept ≡ edge_limit = search rules in
    (omega (arith, c.min-marked.ensures), kept-fits _ _ _ _ _ c.kept_length-length.ensures c.if-text-length.false)

pub returns : goal.returns
returns c =
    let a = c.args in
    let marks : length a.kept ≡ edge_limit = search rules in
    let measured = length-kept (kept_edges c.min-marked.result a.kept) a.cost a.unreserved in
    let room = c.if-text-length.false in
    let f = fits (answer _) a.text.now _ refl (omega (arith, measured, c.kept_length-length.ensures, room)) in
    rw (marks-looked a.kept a.edges c.min-marked.result (rw marks c.min-marked.ensures)) (
      ap answer (c.kept_length-length.ensures ∙ sym measured) ∙ f.0,
      rw (to_z-of_z c.ranges.cost, to_z-of_z c.ranges.unreserved) at c.put_text.ensures ∙ f.1,
    )
