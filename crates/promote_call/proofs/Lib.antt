mod Promoted
