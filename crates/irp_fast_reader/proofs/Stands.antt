-- What a value needs for its compact text to be one plain line that is read back as the value: whole numbers of 64 bits,
-- texts of printable ASCII, keys in order, and at most so many levels of arrays and objects.
use Rattle.std.specs.Prelude.{◌≡◌, ℕ, zero, suc, ◌<◌, ◌^◌, ◌&&◌, nat_lt, List, [], ◌∷◌, Bool, true, ⊤}
use Rattle.serde_json.specs.Data.{Num, unsigned, negative, float, Data, null, boolean, number, string, array, object, Items, no_items, item, Members, no_members, member, put}

-- printable ASCII
abbrev pub are_plain : List ℕ → Bool
are_plain [] = true
are_plain (byte ∷ bytes) = (nat_lt 31 byte && nat_lt byte 128) && are_plain bytes

-- the members, put one after another among those before them
abbrev pub put_all : Members → Members → Members
put_all no_members before = before
put_all (member key value more) before = put_all more (put key value before)

abbrev pub keys_plain : Members → Bool
keys_plain no_members = true
keys_plain (member key value more) = are_plain key && keys_plain more

abbrev pub NumberStands : Num → Type 0
NumberStands (unsigned count) = count < 2 ^ 64
NumberStands (negative count) = ⊥
NumberStands (float fraction) = ⊥

abbrev mutual
  pub Stands : Data → ℕ → Type 0
  Stands null levels = ⊤
  Stands (boolean flag) levels = ⊤
  Stands (number count) levels = NumberStands count
  Stands (string text) levels = are_plain text ≡ true
  Stands (array given) zero = ⊥
  Stands (array given) (suc levels) = ItemsStand given levels
  Stands (object given) zero = ⊥
  -- each member goes last among those before it, and so all give the members again
  Stands (object given) (suc levels) = (put_all given no_members ≡ given) × (keys_plain given ≡ true) × MembersStand given levels

  pub ItemsStand : Items → ℕ → Type 0
  ItemsStand no_items levels = ⊤
  ItemsStand (item first others) levels = Stands first levels × ItemsStand others levels

  pub MembersStand : Members → ℕ → Type 0
  MembersStand no_members levels = ⊤
  MembersStand (member key value more) levels = Stands value levels × MembersStand more levels
