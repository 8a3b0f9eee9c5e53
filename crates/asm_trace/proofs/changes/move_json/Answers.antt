use Rattle.asm_trace.proofs.changes.move_json.Goals as goal

pub named_json-requires : goal.named_json-requires
named_json-requires g c = c.requires c.if-is_local.true
