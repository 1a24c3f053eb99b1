use Rattle.session_model.proofs.Wanted.{cecp_hears_unstopping, cecp_quits_stop, lines_are_wanted, uci_hears_unstopping, uci_quits_stop}
use Rattle.session_model.proofs.laws.wanted_lines_are_those_of_the_turns.Goals as goal
use Rattle.session_model.specs.CecpSession.{cecp}
use Rattle.session_model.specs.UciSession.{uci}

pub returns-clause-uci : goal.returns-clause-uci
returns-clause-uci c = lines_are_wanted uci uci_quits_stop uci_hears_unstopping

pub returns-clause-cecp : goal.returns-clause-cecp
returns-clause-cecp c = lines_are_wanted cecp cecp_quits_stop cecp_hears_unstopping
