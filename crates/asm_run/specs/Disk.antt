-- A folder on a disk that keeps only what was flushed.
use Rattle.std.specs.Prelude.{◌≡◌, ◌⊎◌, ◌+◌, ℕ, List, [], ◌∷◌, ◌++◌, Option, Some, None, Bool, true, false}
use Rattle.std.specs.Prelude.{cond, nat_eq, bytes_eq}

-- a file: the bytes that a read returns, and whether all of them are on the disk
pub record File : Type 0 where
  pub bytes : List ℕ
  pub flushed : Bool

-- the file to which each name of the folder leads
abbrev pub Names : Type 0
Names = List ℕ → Option ℕ

-- a folder: all files that were ever created, by their places, and how many; the names as processes see them, and as
-- they were since the folder was flushed, the last first
pub record Disk : Type 0 where
  pub files : ℕ → File
  pub count : ℕ
  pub names : Names
  pub former : List Names

-- a call of the system; a write adds all its bytes at the end
pub data SystemCall : Type 0 where
  Remove : (name : List ℕ) → SystemCall
  Create : (name : List ℕ) → SystemCall
  Write : (name bytes : List ℕ) → SystemCall
  Flush : (name : List ℕ) → SystemCall
  Rename : (from to : List ℕ) → SystemCall
  FlushFolder : SystemCall

-- the names, except that this one leads there
abbrev pub names_with : List ℕ → Option ℕ → Names → Names
names_with name to names = λ n. cond (bytes_eq n name) to (names n)

-- the files, except that this one is at that place
abbrev pub files_with : ℕ → File → (ℕ → File) → (ℕ → File)
files_with at file files = λ i. cond (nat_eq i at) file (files i)

-- the folder with other names, before it is flushed
abbrev pub disk_with_names : Disk → Names → Disk
disk_with_names d names = record { files = d.files; count = d.count; names = names; former = d.names ∷ d.former }

-- the folder with this change of the file at a place, if there is one
abbrev pub disk_with_change : Disk → Option ℕ → (File → File) → Disk
disk_with_change d None change = d
disk_with_change d (Some i) change = record {
  files = files_with i (change (d.files i)) d.files;
  count = d.count;
  names = d.names;
  former = d.former;
}

-- a file with these bytes, which aren't on the disk
abbrev pub unflushed : List ℕ → File
unflushed bytes = record { bytes = bytes; flushed = false }

-- the folder after the call; a name that leads nowhere is no error
abbrev pub disk_after : SystemCall → Disk → Disk
disk_after (Remove name) d = disk_with_names d (names_with name None d.names)
disk_after (Create name) d = record {
  files = files_with d.count (unflushed []) d.files;
  count = d.count + 1;
  names = names_with name (Some d.count) d.names;
  former = d.names ∷ d.former;
}
disk_after (Write name bytes) d = disk_with_change d (d.names name) (λ f. unflushed (f.bytes ++ bytes))
disk_after (Flush name) d = disk_with_change d (d.names name) (λ f. record { bytes = f.bytes; flushed = true })
disk_after (Rename from to) d = disk_with_names d (names_with to (d.names from) (names_with from None d.names))
disk_after FlushFolder d = record { files = d.files; count = d.count; names = d.names; former = [] }

-- the file at this name has any bytes, which aren't on the disk
abbrev pub IsTorn : List ℕ → Disk → Disk → Type 0
IsTorn name d e = (any : List ℕ) × (e ≡ disk_with_change d (d.names name) (λ _. unflushed any))

-- the folder if the call failed or didn't return: nothing was done, or all, or the file that it writes or flushes has
-- any bytes
abbrev pub CallMayLeave : SystemCall → Disk → Disk → Type 0
CallMayLeave (Write name bytes) d e = (e ≡ d) ⊎ IsTorn name d e
CallMayLeave (Flush name) d e = (e ≡ d) ⊎ ((e ≡ disk_after (Flush name) d) ⊎ IsTorn name d e)
CallMayLeave call d e = (e ≡ d) ⊎ (e ≡ disk_after call d)

-- the name led there at some moment since the folder was flushed
abbrev pub HasLed : List Names → List ℕ → Option ℕ → Type 0
HasLed [] name to = ⊥
HasLed (names ∷ former) name to = (to ≡ names name) ⊎ HasLed former name to

-- a power failure may leave the second folder of the first: each file has any bytes, unless it was flushed, and each name
-- by itself leads to what it led to at some moment since the folder was flushed
pub record IsAfterPowerFailure (d e : Disk) : Type 0 where
  pub bytes : (i : ℕ) → (d.files i).flushed ≡ true → (e.files i).bytes ≡ (d.files i).bytes
  pub flushed : (i : ℕ) → (e.files i).flushed ≡ true
  pub count : e.count ≡ d.count
  pub names : (n : List ℕ) → HasLed (d.names ∷ d.former) n (e.names n)
  pub former : e.former ≡ []

-- what a process reads at a name
abbrev pub bytes_at : Disk → Option ℕ → Option (List ℕ)
bytes_at d None = None
bytes_at d (Some i) = Some (d.files i).bytes
