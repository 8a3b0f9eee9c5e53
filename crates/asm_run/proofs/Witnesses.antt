-- Histories that the definitions allow.
use Rattle.std.proofs.Common.{◌≡◌, inl, inr, ℕ, Bool, true, false, List, [], refl}
use Rattle.std.proofs.Common.{Option, None}
use Rattle.asm_run.specs.Disk.{File, Disk}
use Rattle.asm_run.specs.Durable.{SavesOne, DropsOne, MayLoseName, MayTear, renamed_world, written_world}

pub saves_one : SavesOne
saves_one s first =
    ((refl, ((refl, tt, λ n k is. refl), ((refl, (first, tt)), (tt, (tt, (tt, (tt, (tt, (tt, tt))))))))), refl)

-- what is left of a file, with these bytes if it wasn't flushed
abbrev torn_if : Bool → List ℕ → List ℕ → List ℕ
torn_if true old bytes = old
torn_if false old bytes = bytes

abbrev torn : List ℕ → File → File
torn bytes f = record { bytes = torn_if f.flushed f.bytes bytes; flushed = true }

left_if : (t : Bool) (old bytes : List ℕ) → t ≡ true → torn_if t old bytes ≡ old
left_if true old bytes e = refl
left_if false old bytes e = cc

torn_disk : List ℕ → Disk → (List ℕ → Option ℕ) → Disk
torn_disk bytes d names = record { files = λ i. torn bytes (d.files i); count = d.count; names = names; former = [] }

pub may_lose_name : MayLoseName
unfolding torn_disk
may_lose_name s = (
  torn_disk [] (renamed_world s).disk (λ _. None),
  record {
    bytes = λ i. left_if ((renamed_world s).disk.files i).flushed ((renamed_world s).disk.files i).bytes [];
    flushed = λ i. refl;
    count = refl;
    names = λ n. inr (inr (inr (inl refl)));
    former = refl;
  },
  λ n. refl,
)

pub may_tear : MayTear
unfolding torn_disk
may_tear s bytes = (
  torn_disk bytes (written_world s).disk (written_world s).disk.names,
  record {
    bytes = λ i. left_if ((written_world s).disk.files i).flushed ((written_world s).disk.files i).bytes bytes;
    flushed = λ i. refl;
    count = refl;
    names = λ n. inl refl;
    former = refl;
  },
  refl,
)

pub drops_one : DropsOne
drops_one s t first second = (
  (
    refl,
    (
      (refl, tt, λ n k is. refl),
      (
        (refl, (first, tt)),
        (
          tt,
          (
            tt,
            (
              tt,
              (
                tt,
                (
                  tt,
                  (
                    tt,
                    (
                      (refl, (second, tt)),
                      (tt, (tt, (tt, (tt, (tt, (tt, ((refl, (t, [], refl)), (tt, (tt, tt))))))))),
                    ),
                  ),
                ),
              ),
            ),
          ),
        ),
      ),
    ),
  ),
  refl,
  refl,
)
