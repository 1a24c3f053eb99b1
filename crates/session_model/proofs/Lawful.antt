-- The two protocols keep the laws on which the frame rests.
use Rattle.session_model.proofs.CecpExists.{cecp_has_output}
use Rattle.session_model.proofs.Exists.{uci_has_output}
use Rattle.session_model.proofs.Wanted.{cecp_hears_unstopping, cecp_quits_stop, lines_are_wanted, uci_hears_unstopping, uci_quits_stop}
use Rattle.session_model.proofs.Wider.{cecp_is_wider, uci_is_wider}
use Rattle.session_model.specs.CecpSession.{cecp}
use Rattle.session_model.specs.UciSession.{uci}
use Rattle.session_model.specs.Turned.{IsLawful}

pub uci_is_lawful : IsLawful uci
uci_is_lawful = record {
  wider = uci_is_wider;
  wanted = lines_are_wanted uci uci_quits_stop uci_hears_unstopping;
  output = uci_has_output;
}

pub cecp_is_lawful : IsLawful cecp
cecp_is_lawful = record {
  wider = cecp_is_wider;
  wanted = lines_are_wanted cecp cecp_quits_stop cecp_hears_unstopping;
  output = cecp_has_output;
}
