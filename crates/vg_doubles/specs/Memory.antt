-- What a caller sees of files in memory.
use Rattle.std.specs.Prelude.{ℕ, true}
use Rattle.vg_doubles.specs.declared.memory.MemFiles.{MemFiles}
use Rattle.vg_base.specs.Files.{Disk}
use Rattle.vg_doubles.specs.Plan.{Plan}
use Rattle.vg_doubles.specs.Calls.{counted}
use Rattle.vg_doubles.specs.Named.{lookup}
use Rattle.vg_doubles.specs.Pages.{made_on, opened_on, open_pages, free_pages}

-- what is seen of all objects with files; both kinds of bytes are told
abbrev pub disk_of : MemFiles → Disk
disk_of files = record {
  read_faults = files.read_faults;
  write_faults = files.write_faults;
  shut_faults = files.shut_faults;
  tells_held = true;
  held = lookup files.held.items;
  tells_made = true;
  made = made_on files.pages.items;
  opened = opened_on files.held.items files.pages.items;
  open_count = open_pages files.pages.items;
}

-- how many calls were made, and which are to fail
abbrev pub plan_of : MemFiles → Plan
plan_of files = counted files.calls

-- how many files may still be opened or created
abbrev pub files_left : MemFiles → ℕ
files_left files = free_pages files.pages.items

-- how many bytes each created file takes
abbrev pub room_of : MemFiles → ℕ
room_of files = files.room
