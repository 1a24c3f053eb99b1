use Rattle.legality.proofs.CandidateFit.{candidate_fit}
use Rattle.legality.proofs.candidates.prove_candidates_fit.Goals as goal

pub returns : goal.returns
returns c m e = candidate_fit _ _ m c.requires c.prove_position_sizes.ensures c.prove_mask_size.ensures c.prove_region_sizes.ensures e
