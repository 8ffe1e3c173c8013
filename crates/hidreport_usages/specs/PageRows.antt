-- The table of usage pages.
-- Written by checks/tree/usage_tables.sh from data/usages.txt: edit that.
use Rattle.std.specs.Prelude.{List, [], ◌∷◌, codes}
use Rattle.hidreport_usages.specs.Rows.{Row}

unfoldable pub page_rows : List Row
page_rows =
    (0x01, codes "Generic Desktop")
    ∷ (0x02, codes "Simulation Controls")
    ∷ (0x03, codes "VR Controls")
    ∷ (0x04, codes "Sport Controls")
    ∷ (0x05, codes "Game Controls")
    ∷ (0x06, codes "Generic Device Controls")
    ∷ (0x07, codes "Keyboard/Keypad")
    ∷ (0x08, codes "LED")
    ∷ (0x09, codes "Button")
    ∷ (0x0a, codes "Ordinal")
    ∷ (0x0b, codes "Telephony Device")
    ∷ (0x0c, codes "Consumer")
    ∷ (0x0d, codes "Digitizers")
    ∷ (0x0e, codes "Haptics")
    ∷ (0x0f, codes "Physical Input Device")
    ∷ (0x10, codes "Unicode")
    ∷ (0x11, codes "SoC")
    ∷ (0x12, codes "Eye and Head Trackers")
    ∷ (0x14, codes "Auxiliary Display")
    ∷ (0x20, codes "Sensors")
    ∷ (0x40, codes "Medical Instrument")
    ∷ (0x41, codes "Braille Display")
    ∷ (0x59, codes "Lighting And Illumination")
    ∷ (0x80, codes "Monitor")
    ∷ (0x81, codes "Monitor Enumerated")
    ∷ (0x82, codes "VESA Virtual Controls")
    ∷ (0x84, codes "Power")
    ∷ (0x85, codes "Battery System")
    ∷ (0x8c, codes "Barcode Scanner")
    ∷ (0x8d, codes "Scales")
    ∷ (0x8e, codes "Magnetic Stripe Reader")
    ∷ (0x90, codes "Camera Control")
    ∷ (0x91, codes "Arcade")
    ∷ (0x92, codes "Gaming Device")
    ∷ (0xf1d0, codes "FIDO Alliance")
    ∷ []
