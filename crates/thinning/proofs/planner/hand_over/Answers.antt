-- `thinning::planner::hand_over` meets its contract.
use mathlib.Core.Path.{◌≡◌, refl, sym, ◌∙◌, ap}
use Prim.Native.Nat.{ℕ, ◌-◌, ◌≤◌}
use lib.IntN.{ℤ}
use native.Mathlib.Omega.{arith}
use lib.ListN.{length}
use lib.Seq.{length-take-le}
use Rattle.base.specs.Answer.{answer, over}
use Rattle.base.specs.Refusals.{SHORT}
use Rattle.base.proofs.Answers.{fits}
use Rattle.base.proofs.Bools.{no_answer}
use Rattle.chain_text.specs.Text.{chain_length}
use Rattle.claim.specs.Services.{kept_text_of, texts_of}
use Rattle.claim.proofs.Keepings.{kept-size}
use Rattle.claim.proofs.Handing.{chain-size, short-chain, short-kept, both-fit, handed-refused, handed-over}
use Rattle.thinning.proofs.planner.hand_over.Goals as goal
use Rattle.thinning.proofs.planner.hand_over.Goals.{After-kept_length-kept_due, After-put_chain}

-- how long the kept text is
kept-due : (c : After-kept_length-kept_due)
    → c.kept_length-kept_due.result ≡ length (kept_text_of c.args.network c.args.marked.marks)
kept-due c = kept-size c.requires.keeping c.kept_length-kept_due.result c.kept_length-kept_due.ensures

pub returns-then-chain-chain_due : goal.returns-then-chain-chain_due
returns-then-chain-chain_due c =
    let a = c.args in
    let left =
    handed-refused _ a.chain.now a.kept.now SHORT
    (short-chain a.network a.marked.marks a.chain.now a.kept.now
    (omega (arith, c.chain_length-chain_due.ensures, c.if-chain-chain_due.true))) in
    record { reply = left.0; chain = left.1.0; kept = left.1.1 }

pub returns-then-kept-kept_due : goal.returns-then-kept-kept_due
returns-then-kept-kept_due c =
    let a = c.args in
    let due = kept-due (goal.at.returns-then-kept-kept_due c).After-kept_length-kept_due in
    let left =
    handed-refused _ a.chain.now a.kept.now SHORT
    (short-kept a.network a.marked.marks a.chain.now a.kept.now
    (omega (arith, due, c.if-kept-kept_due.true))) in
    record { reply = left.0; chain = left.1.0; kept = left.1.1 }

pub put_chain-requires : goal.put_chain-requires
put_chain-requires c =
    let p = c.requires in
    let g = c.args.network in (
      omega (arith, length-take-le {A = ℕ}),
      omega (arith, length-take-le {A = ℕ}),
      omega (arith, length-take-le {A = ℕ}),
      omega (arith, length-take-le {A = ℕ}, length-take-le {A = ℤ}),
      rw p.chain_is
          (omega (arith, chain-size (g.remaining - 2) g, c.chain_length-chain_due.ensures, c.if-chain-chain_due.false)),
    )

-- the kept text has room
kept-room : (c : After-put_chain) → length (kept_text_of c.args.network c.args.marked.marks) ≤ length c.args.kept.now
kept-room c =
    let due = kept-size c.requires.keeping c.kept_length-kept_due.result c.kept_length-kept_due.ensures in
    omega (arith, due, c.if-kept-kept_due.false)

-- so that writing it is not refused
pub returns-in_err-put_kept : goal.returns-in_err-put_kept
returns-in_err-put_kept c =
    let text = kept_text_of c.args.network c.args.marked.marks in
    let l = kept-room (goal.at.returns-in_err-put_kept c).After-put_chain in
    let written = (fits (answer text) c.args.kept.now text refl l).0 in
    let refused = c.in_err-put_kept.ensures.reply in
    no_answer (cc)

pub returns : goal.returns
unfolding texts_of
returns c =
    let at = goal.at.returns c in
    let chain-due = c.chain_length-chain_due.ensures in
    let kept-due = kept-due at.After-kept_length-kept_due in
    let a = c.args in
    let marks = a.marked.marks in
    let l = kept-room at.After-put_chain in
    let m : chain_length (a.network.remaining - 2) ≤ length a.chain.now =
    omega (arith, chain-due, c.if-chain-chain_due.false) in
    let both = both-fit a.network marks a.chain.now a.kept.now m l in
    let h = handed-over _ a.chain.now a.kept.now (texts_of a.network marks) both in
    let f = fits (answer (kept_text_of a.network marks)) a.kept.now _ refl l in record {
      reply = rw (chain-due ∙ sym (chain-size (a.network.remaining - 2) a.network), kept-due) h.0;
      chain = c.put_chain.ensures.1 ∙ ap (λ t. over t a.chain.now) c.requires.chain_is ∙ h.1.0;
      kept = c.put_kept.ensures.text ∙ sym f.1 ∙ h.1.1;
    }
