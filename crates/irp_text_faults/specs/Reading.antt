-- Where a part of a script stands in its text: a value under a key, or a member of a list there.
use Rattle.std.specs.Prelude.{ℕ, ◌<◌, ◌≤◌, ◌+◌, ◌-◌, ◌==◌, ◌&&◌, ◌||◌, if◌then◌else◌, nat_le, Bool, false, not, List, fold}
use Rattle.irp_text_faults.specs.Places.{cut}
use Rattle.irp_text_faults.specs.Spelling.{says}
use Rattle.irp_text_faults.specs.declared.reading.Reading.{Reading}
use Rattle.irp_text_faults.specs.declared.reading.Sought.{Sought}

-- a byte that opens a list or an object
abbrev pub opens : ℕ → Bool
opens byte = byte == 91 || byte == 123

-- a byte that ends a list or an object
abbrev pub closes : ℕ → Bool
closes byte = byte == 93 || byte == 125

-- a byte between values: white space, a comma, or the end of a list or an object
abbrev pub is_between : ℕ → Bool
is_between byte = (byte == 32 || byte == 9 || byte == 10 || byte == 13) || (byte == 44 || closes byte)

-- whether this quotation mark, or another byte, ends a text
abbrev pub ends_text : Reading → ℕ → Bool
ends_text read byte = read.quoted && (not read.escaped && byte == 34)

-- a byte that is no part of a text, directly in so many lists and objects
abbrev pub is_mark_at : Reading → ℕ → Bool
is_mark_at read depth = not read.quoted && read.depth == depth

-- whether the next byte stands in a text
abbrev pub quoted_behind : Reading → ℕ → Bool
quoted_behind read byte = if read.quoted then not (ends_text read byte) else byte == 34

-- whether the next byte stands behind a backslash in a text
abbrev pub escaped_behind : Reading → ℕ → Bool
escaped_behind read byte = read.quoted && (not read.escaped && byte == 92)

-- how many lists and objects are open behind a byte
abbrev pub depth_behind : Reading → ℕ → ℕ
depth_behind read byte =
    if read.quoted then read.depth
    else (if opens byte then read.depth + 1 else (if closes byte then read.depth - 1 else read.depth))

-- where the last text begins
abbrev pub word_behind : Reading → ℕ
word_behind read = if read.quoted then read.word else read.at + 1

-- whether the last text directly in the script is the key
abbrev pub named_behind : List ℕ → List ℕ → Reading → ℕ → Bool
named_behind key text read byte =
    if ends_text read byte && read.depth == 1 then says key (cut text read.word read.at) else read.named

-- whether this colon stands behind the key
abbrev pub begins_value : Reading → ℕ → Bool
begins_value read byte = is_mark_at read 1 && (byte == 58 && read.named)

-- whether the next byte stands in what is under the key; in an object, of which no member is sought, it doesn't
abbrev pub valued_behind : Sought → Reading → ℕ → Bool
valued_behind sought read byte =
    if is_mark_at read 1 then
    (if byte == 58 then read.named
    else (if byte == 44 || (byte == 123 && sought.depth == 2) then false else read.valued))
    else read.valued

-- how many members of the list stand before the next byte
abbrev pub members_behind : Reading → ℕ → ℕ
members_behind read byte =
    if begins_value read byte then 0
    else (if is_mark_at read 2 && byte == 44 then read.members + 1 else read.members)

-- whether a byte belongs to what is sought
abbrev pub belongs : Sought → Reading → ℕ → Bool
belongs sought read byte =
    (read.valued && nat_le sought.depth read.depth)
    && ((sought.depth == 1 || read.members == sought.index) && not (is_mark_at read sought.depth && is_between byte))

-- where what is sought begins
abbrev pub start_behind : Sought → Reading → ℕ → ℕ
start_behind sought read byte = if belongs sought read byte && read.end == 0 then read.at else read.start

-- where it ends, as far as it is read; 0 where it hasn't begun
abbrev pub end_behind : Sought → Reading → ℕ → ℕ
end_behind sought read byte =
    if begins_value read byte then 0 else (if belongs sought read byte then read.at + 1 else read.end)

-- nothing is read yet
abbrev pub nothing_read : Reading
nothing_read = record {
  at = 0;
  depth = 0;
  quoted = false;
  escaped = false;
  word = 0;
  named = false;
  valued = false;
  members = 0;
  start = 0;
  end = 0;
}

-- behind a byte
abbrev pub read_on : List ℕ → Sought → List ℕ → Reading → ℕ → Reading
read_on key sought text read byte = record {
  at = read.at + 1;
  depth = depth_behind read byte;
  quoted = quoted_behind read byte;
  escaped = escaped_behind read byte;
  word = word_behind read;
  named = named_behind key text read byte;
  valued = valued_behind sought read byte;
  members = members_behind read byte;
  start = start_behind sought read byte;
  end = end_behind sought read byte;
}

-- behind the bytes with which a text begins
abbrev pub read_through : List ℕ → Sought → List ℕ → List ℕ → Reading
read_through key sought text front = fold (read_on key sought text) nothing_read front

-- all are within what is read, and what is sought ends behind where it begins
abbrev pub IsSound : Reading → Type 0
IsSound read =
    (read.depth ≤ read.at) × (read.members ≤ read.at) × (read.end ≤ read.at) × (0 < read.end → read.start < read.end)
