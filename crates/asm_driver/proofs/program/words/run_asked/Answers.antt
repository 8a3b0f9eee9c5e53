use Rattle.std.proofs.Common.{◌≡◌, true, false, codes}
use Rattle.std.specs.Str.Parse.{ParsesUnsigned, ExplainsUnsignedError, HasUnsignedDigitsIfOk}
use Rattle.clap.specs.Words.{found_of}
use Rattle.asm_driver.proofs.Asking.{capacity_asked, flag_asked}
use Rattle.asm_driver.proofs.program.words.run_asked.Goals as goal

pub returns-then-get_flag : goal.returns-then-get_flag
returns-then-get_flag c =
    let f = found_of c.args.options.now in (
      rw c.unwrap_or-capacity.ensures
          (capacity_asked (λ bs r. ParsesUnsigned 32 10 bs r × ExplainsUnsignedError 10 bs r × HasUnsignedDigitsIfOk bs r)
          f _ (λ t r g. g.0) c.get_one.ensures.none c.get_one.ensures.value),
      flag_asked f (codes "journal") c.get_flag.result true c.get_flag.ensures.value c.get_flag.ensures.other c.if-get_flag.true,
      λ e. let no : true ≡ false = e in cc (no),
    )

pub returns-then-get_flag-2 : goal.returns-then-get_flag-2
returns-then-get_flag-2 c =
    let f = found_of c.args.options.now in (
      rw c.unwrap_or-capacity.ensures
          (capacity_asked (λ bs r. ParsesUnsigned 32 10 bs r × ExplainsUnsignedError 10 bs r × HasUnsignedDigitsIfOk bs r)
          f _ (λ t r g. g.0) c.get_one.ensures.none c.get_one.ensures.value),
      flag_asked f (codes "journal") c.get_flag.result false c.get_flag.ensures.value c.get_flag.ensures.other c.if-get_flag.false,
      flag_asked f (codes "terms") c.get_flag-2.result true c.get_flag-2.ensures.value c.get_flag-2.ensures.other
          c.if-get_flag-2.true,
    )

pub returns : goal.returns
returns c =
    let f = found_of c.args.options.now in (
      rw c.unwrap_or-capacity.ensures
          (capacity_asked (λ bs r. ParsesUnsigned 32 10 bs r × ExplainsUnsignedError 10 bs r × HasUnsignedDigitsIfOk bs r)
          f _ (λ t r g. g.0) c.get_one.ensures.none c.get_one.ensures.value),
      flag_asked f (codes "journal") c.get_flag.result false c.get_flag.ensures.value c.get_flag.ensures.other c.if-get_flag.false,
      λ e. flag_asked f (codes "terms") c.get_flag-2.result false c.get_flag-2.ensures.value c.get_flag-2.ensures.other
          c.if-get_flag-2.false,
    )
