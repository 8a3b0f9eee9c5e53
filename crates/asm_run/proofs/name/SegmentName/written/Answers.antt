use Rattle.std.proofs.Common.{◌≡◌, ◌-◌, [], ◌∷◌, ◌++◌, length, replicate, ap, ap₂, ◌∙◌, append_assoc}
use Rattle.std.specs.Prelude.{decimal}
use Rattle.asm_run.specs.Name.{name_text}
use Rattle.asm_run.proofs.Cuts.{journal}
use Rattle.asm_run.proofs.name.SegmentName.written.Goals as goal

pub returns : goal.returns
returns c =
    let n = c.args.self.now in
    let front = replicate (8 - length (decimal n.number)) 48 ++ decimal n.number in
    let counts = 45 ∷ (decimal n.first ++ (45 ∷ (decimal n.moves ++ (45 ∷ (decimal n.events ++ (45 ∷ [])))))) in
    let e1 : c.extend_from_slice.new.self.items ≡ front ++ counts =
    c.in_ok-extend_from_slice.ensures.items ∙ ap₂ (λ x y. x ++ y) c.in_ok-text.ensures
    (c.as_bytes.ensures.value ∙ c.in_ok-rest.ensures) in
    let e2 : c.extend_from_slice-2.new.self.items ≡ (front ++ counts) ++ n.previous =
    c.in_ok-extend_from_slice-2.ensures.items ∙ ap₂ (λ x y. x ++ y) e1 c.as_slice.ensures in
    let e3 : c.push.new.self.items ≡ ((front ++ counts) ++ n.previous) ++ 45 ∷ [] =
    c.in_ok-push.ensures.items ∙ ap (λ x. x ++ 45 ∷ []) e2 in
    let e4 : c.extend_from_slice-3.new.self.items ≡ (((front ++ counts) ++ n.previous) ++ 45 ∷ []) ++ n.digest =
    c.in_ok-extend_from_slice-3.ensures.items ∙ ap₂ (λ x y. x ++ y) e3 c.as_slice-2.ensures in
    let e5 : c.extend_from_slice-4.new.self.items ≡ ((((front ++ counts) ++ n.previous) ++ 45 ∷ []) ++ n.digest) ++
    journal = c.in_ok-extend_from_slice-4.ensures.items ∙ ap (λ x. x ++ journal) e4 in
    let all : ((((front ++ counts) ++ n.previous) ++ 45 ∷ []) ++ n.digest) ++ journal ≡ name_text n =
    simp append_assoc in
    e5 ∙ all
