use Rattle.std.proofs.Common.{inl, inr}
use Rattle.std.proofs.lemmas.Result.{err_from_is_err_and}
use Rattle.chain_core.proofs.LineLemmas.{no_header, header_other, header_fails, header_passes}
use Rattle.chain_core.proofs.ReadsBackLemmas.{log_law}
use Rattle.chain_core.proofs.UnreadLemmas.{unread_law}
use Rattle.chain_core.proofs.read.read_log.Goals as goal

pub returns-in_default-clause-answer : goal.returns-in_default-clause-answer
returns-in_default-clause-answer c = inr (no_header c.args.bytes.now c.in_default.ensures)

pub returns-in_default-clause-text : goal.returns-in_default-clause-text
returns-in_default-clause-text c = log_law c.args.bytes.now

pub returns-in_default-clause-cause : goal.returns-in_default-clause-cause
returns-in_default-clause-cause c = unread_law c.args.bytes.now

pub returns-in_default-encoding_of-clause-answer : goal.returns-in_default-encoding_of-clause-answer
returns-in_default-encoding_of-clause-answer c = inr (header_other c.args.bytes.now c.in-Some.end c.in-Some.ensures c.in_default-encoding_of.ensures)

pub returns-in_default-encoding_of-clause-text : goal.returns-in_default-encoding_of-clause-text
returns-in_default-encoding_of-clause-text c = log_law c.args.bytes.now

pub returns-in_default-encoding_of-clause-cause : goal.returns-in_default-encoding_of-clause-cause
returns-in_default-encoding_of-clause-cause c = unread_law c.args.bytes.now

pub returns-in_err-log-clause-answer : goal.returns-in_err-log-clause-answer
returns-in_err-log-clause-answer c =
    let p = err_from_is_err_and c.from_residual.result c.from_residual.ensures.1 in
    rw (p.1, p.2) (elim c.in_err-log.ensures [
      | inl memory ↦ inl memory
      | inr fails ↦ inr (header_fails c.args.bytes.now c.in-Some.end c.in-Some-encoding_of.encoding _ c.in-Some.ensures c.in-Some-encoding_of.ensures fails)
    ])

pub returns-in_err-log-clause-text : goal.returns-in_err-log-clause-text
returns-in_err-log-clause-text c = log_law c.args.bytes.now

pub returns-in_err-log-clause-cause : goal.returns-in_err-log-clause-cause
returns-in_err-log-clause-cause c = unread_law c.args.bytes.now

pub returns-clause-answer : goal.returns-clause-answer
returns-clause-answer c = header_passes c.args.bytes.now c.in-Some.end c.in-Some-encoding_of.encoding c.in_ok-log.log c.in-Some.ensures c.in-Some-encoding_of.ensures c.in_ok-log.ensures

pub returns-clause-text : goal.returns-clause-text
returns-clause-text c = log_law c.args.bytes.now

pub returns-clause-cause : goal.returns-clause-cause
returns-clause-cause c = unread_law c.args.bytes.now
