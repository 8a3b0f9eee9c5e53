use Rattle.std.proofs.Common.{◌≡◌, sym, subst}
use Rattle.asm_run.specs.Chain.{hashed, digest_after}
use Rattle.asm_run.specs.Name.{IsDigest}
use Rattle.asm_run.proofs.Digits.{is_digest}
use Rattle.asm_run.proofs.end.RunEnd.digest_of.Goals as goal

pub returns-clause-digits : goal.returns-clause-digits
returns-clause-digits c =
    let e : c.in_ok-digest.digest ≡ digest_after c.args.self.now c.args.moves c.args.events c.args.text.now =
    c.in_ok-digest.ensures in
    subst IsDigest (sym e)
    (is_digest (hashed c.args.self.now.digest c.args.self.now.segments c.args.self.now.moves c.args.moves
    c.args.events c.args.text.now))
