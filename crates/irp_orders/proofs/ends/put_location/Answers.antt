use Rattle.std.proofs.Common.{codes, ◌++◌}
use Rattle.std.specs.Fmt.{decimal}
use Rattle.irp_names.specs.Majors.{major_text}
use Rattle.irp_names.specs.Small.{hex_text, told_if}
use Rattle.irp_orders.specs.Ends.{location_device_text, location_setting_text}
use Rattle.irp_names.proofs.Saying.{says_both}
use Rattle.irp_orders.proofs.Putting.{says_told}
use Rattle.irp_orders.proofs.ends.put_location.Goals as goal

pub returns : goal.returns
returns c =
    let location = c.args.location in
    let number = decimal c.args.number in
    let major = major_text location.major in
    let word = hex_text location.word in
    let device = location_device_text location.device in
    let setting = location_setting_text location.setting in
    let pending = told_if location.pending (codes ", marked pending") in
    says_both (codes "        location " ++ (number ++ (codes ": " ++ (major ++ (codes ", word " ++ (word ++ (device ++ (setting ++ (pending))))))))) (codes "\n") _ _ _
    (says_told (codes "        location ") number (codes ": " ++ (major ++ (codes ", word " ++ (word ++ (device ++ (setting ++ (pending))))))) _ _ _ c.tell.ensures
    (says_told (codes ": ") major (codes ", word " ++ (word ++ (device ++ (setting ++ (pending))))) _ _ _ c.tell-2.ensures
    (says_told (codes ", word ") word (device ++ (setting ++ (pending))) _ _ _ c.tell_hexadecimal.ensures
    (says_both device (setting ++ (pending)) _ _ _ c.put_location_device.ensures
    (says_both setting (pending) _ _ _ c.put_location_setting.ensures
    c.put_if.ensures)))))
    c.put.ensures
