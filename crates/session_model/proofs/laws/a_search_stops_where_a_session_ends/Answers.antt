use Rattle.session_model.proofs.Wanted.{cecp_quits_stop, uci_quits_stop}
use Rattle.session_model.proofs.laws.a_search_stops_where_a_session_ends.Goals as goal

pub returns-clause-uci : goal.returns-clause-uci
returns-clause-uci c = uci_quits_stop

pub returns-clause-cecp : goal.returns-clause-cecp
returns-clause-cecp c = cecp_quits_stop
