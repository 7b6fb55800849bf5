use denote.RattleType.{RattleType}
use denote.Param.Send.{IsSend}
use Rattle.buffer_parts.proofs.Sending.{part_crosses}
use Rattle.buffer_parts.specs.contracts.raw.RawPart.{the_row}

pub send : (R : RattleType) → IsSend R → IsSend (the_row R)
send = part_crosses
