use Rattle.model.proofs.Plain.{accepted-bytes}
use Rattle.model.proofs.evaluate.evaluate_accepted.Goals as goal

pub returns : goal.returns
returns c = let e = c.evaluate.ensures in record { output_bytes = accepted-bytes _ _ _ e; out_after = e }
