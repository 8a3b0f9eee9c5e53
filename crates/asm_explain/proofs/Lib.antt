mod Misread
