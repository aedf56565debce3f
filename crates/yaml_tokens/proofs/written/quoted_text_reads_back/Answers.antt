use Rattle.yaml_tokens.proofs.WrittenLemmas.{text-read}
use Rattle.yaml_tokens.proofs.written.quoted_text_reads_back.Goals as goal

pub returns : goal.returns
returns c = text-read c.args.text.now
