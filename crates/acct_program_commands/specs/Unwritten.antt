-- A file that is rewritten from time to time: before its first write, and at each one.
use Rattle.std.specs.Prelude.{◌≡◌, ℕ, ◌+◌, ◌%◌, ◌^◌, max, Bool, true, false, List}
use Rattle.std.specs.Prelude.{Option, None, Some}
use Rattle.acct_program_commands.specs.declared.fresh_file.FreshFile.{FreshFile}

-- nothing was written yet, and no write failed
abbrev pub unwritten : List ℕ → ℕ → ℕ → FreshFile
unwritten name mode seconds = record {
  name = name;
  mode = mode;
  seconds = seconds;
  pause = seconds;
  begun_at = None;
  is_failing = false;
  begins = 0;
  puts = 0;
}

-- one more, counted round and round
abbrev pub next_count : ℕ → ℕ
next_count count = (count + 1) % 2 ^ 64

-- how often a file was put at the name, after one more write that may fail
abbrev pub puts_after : Bool → ℕ → ℕ
puts_after true puts = puts
puts_after false puts = next_count puts

-- the least seconds to the next write: an hour after one that took long, or more if more were asked
abbrev pub rest_after : Bool → ℕ → ℕ
rest_after false seconds = seconds
rest_after true seconds = max seconds 3600

-- It has the same name and mode. Its last write began when this says, and took long or not. One
-- file was opened for it. That was put at the name, and no other; or none was, if the write failed.
abbrev pub IsBegun : Bool → Option ℕ → FreshFile → FreshFile → Type 0
IsBegun is_long begun_at old new = new ≡ record old {
  pause = rest_after is_long old.seconds;
  begun_at = begun_at;
  is_failing = new.is_failing;
  begins = next_count old.begins;
  puts = puts_after new.is_failing old.puts;
}

-- A write of it began at this moment. If the write did not fail, the file was put at its name, and
-- no other.
abbrev pub Rewrites : Bool → (List ℕ → Type 0) → ℕ → FreshFile → FreshFile → Type 0
Rewrites is_long IsPut moment old new =
    IsBegun is_long (Some moment) old new × (new.is_failing ≡ false → IsPut old.name)
