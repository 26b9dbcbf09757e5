-- Four devices: 1 and 2 are put on 0, the stack is cut above 0, and 0 is put on what was above it.
use Rattle.std.proofs.Common.{◌≡◌, [], ◌∷◌, Some, refl}
use Rattle.irp_types.specs.Checks.{first_failing}
use Rattle.irp_types.specs.declared.limit.Limit.TheVariants.{Sixteen}
use Rattle.irp_types.specs.Stacks.{DevicesValue, no_devices, attach_checks, detach_checks, delete_checks, after_create, after_attach, after_detach, after_delete, stack_of, stack_size_of, lower_of, upper_of}
use Rattle.irp_types.specs.Descent.{devices_down}
use Rattle.irp_types.specs.declared.refusal.Refusal.TheVariants.{NoDevice, DeviceGone, StillAttached, SameStack, NothingAttached}

abbrev with_one_more : DevicesValue → DevicesValue
with_one_more devices = after_create devices (record { 0 = 0 }) (record { 0 = 0 })

abbrev pub four : DevicesValue
four = with_one_more (with_one_more (with_one_more (with_one_more no_devices)))

abbrev pub tower : DevicesValue
tower = after_attach (after_attach four 1 0) 2 0

abbrev cut : DevicesValue
cut = after_detach tower 0

abbrev turned : DevicesValue
turned = after_attach cut 0 2

the_second_attach_goes_on_top : stack_of tower 2 ≡ 0 ∷ 1 ∷ 2 ∷ []
the_second_attach_goes_on_top = refl

the_former_top_is_below : lower_of tower 2 ≡ Some 1
the_former_top_is_below = refl

the_third_device_is_three_deep : stack_size_of tower 2 ≡ 3
the_third_device_is_three_deep = refl

a_packet_to_the_top_goes_down_the_stack : devices_down tower 2 3 ≡ 2 ∷ 1 ∷ 0 ∷ []
a_packet_to_the_top_goes_down_the_stack = refl

detach_answers_the_one_above : upper_of tower 0 ≡ Some 1
detach_answers_the_one_above = refl

the_upper_part_is_numbered_anew : stack_size_of cut 2 ≡ 2
the_upper_part_is_numbered_anew = refl

the_lower_part_stands_alone : stack_of cut 0 ≡ 0 ∷ []
the_lower_part_stands_alone = refl

the_former_bottom_is_on_top : stack_of turned 0 ≡ 1 ∷ 2 ∷ 0 ∷ []
the_former_bottom_is_on_top = refl

who_stands_in_a_stack_is_not_attached_elsewhere : first_failing (attach_checks Sixteen tower 1 3) ≡ Some StillAttached
who_stands_in_a_stack_is_not_attached_elsewhere = refl

nobody_is_attached_within_its_own_stack : first_failing (attach_checks Sixteen tower 2 0) ≡ Some SameStack
nobody_is_attached_within_its_own_stack = refl

nobody_is_attached_to_itself : first_failing (attach_checks Sixteen tower 3 3) ≡ Some SameStack
nobody_is_attached_to_itself = refl

a_device_that_was_never_made_is_told_first : first_failing (attach_checks Sixteen tower 9 0) ≡ Some NoDevice
a_device_that_was_never_made_is_told_first = refl

a_deleted_device_is_not_attached : first_failing (attach_checks Sixteen (after_delete turned 3) 3 0) ≡ Some DeviceGone
a_deleted_device_is_not_attached = refl

nothing_stands_above_after_a_cut : first_failing (detach_checks cut 0) ≡ Some NothingAttached
nothing_stands_above_after_a_cut = refl

a_device_with_a_neighbour_stays : first_failing (delete_checks turned 1) ≡ Some StillAttached
a_device_with_a_neighbour_stays = refl
