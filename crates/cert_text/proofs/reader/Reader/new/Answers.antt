use Rattle.cert_text.proofs.PathLemmas.{long-none, path-none, sound-none}
use Rattle.cert_text.proofs.reader.Reader.new.Goals as goal

pub returns-clause-path : goal.returns-clause-path
returns-clause-path c = λ game. record {
  sound = sound-none game c.new-2.result c.new-2.ensures;
  leads = path-none game c.new.result.items c.new-2.result c.new.ensures.items c.new-2.ensures;
  long = long-none c.new.result.items c.new-2.result c.new.ensures.items c.new-2.ensures;
}
