use Rattle.serde_json.specs.Data.{depth}
use Rattle.serde_json.specs.View.{view}
use Rattle.asm_script.proofs.term_form.+read_term.Given as goal

-- how deep the value nests
abbrev pub decreases-read_term : goal.decreases-read_term
decreases-read_term l = depth (view l.json.now)
