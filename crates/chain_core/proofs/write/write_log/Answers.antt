use Rattle.std.proofs.lemmas.Result.{on_ok_weaker}
use Rattle.lists_core.proofs.PutsFacts.{puts-then}
use Rattle.chain_core.proofs.ReadsBackLemmas.{text_reads}
use Rattle.chain_core.proofs.WriteLemmas.{failed_first}
use Rattle.chain_core.proofs.write.write_log.Goals as goal

pub returns-in_err-put_header-clause-text : goal.returns-in_err-put_header-clause-text
returns-in_err-put_header-clause-text c = failed_first _ _ _ _ c.from_residual.result c.from_residual.ensures.0 c.in_err-put_header.ensures

pub returns-clause-text : goal.returns-clause-text
returns-clause-text c = puts-then _ _ _ c.in_ok-put_header.ensures _ _ _ c.put_lemmas.ensures.text

pub returns-clause-reads_back : goal.returns-clause-reads_back
returns-clause-reads_back c = on_ok_weaker c.put_lemmas.result (text_reads c.args.encoding c.args.log.now) c.put_lemmas.ensures.writable
