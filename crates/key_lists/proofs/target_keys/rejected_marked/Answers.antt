use Rattle.key_lists.proofs.TurnLaws.{sorted-records}
use Rattle.key_lists.proofs.target_keys.rejected_marked.Goals as goal

pub returns : goal.returns
returns c = rw (c.target_keys-records.ensures, sorted-records _ _) at c.rejected_message.ensures
