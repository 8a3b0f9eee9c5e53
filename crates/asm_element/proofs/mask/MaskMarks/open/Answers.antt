use Rattle.asm_element.proofs.mask.MaskMarks.open.Goals as goal

pub returns : goal.returns
returns c = c.opened-self.ensures
